-- A list that is written is read.
use Rattle.std.proofs.Common.{◌≡◌, ◌∙◌, inl, inr, ℕ, suc, ◌<◌, ◌^◌, List, [], ◌∷◌, ◌++◌, map, Option, None, Some, refl, sym, ap, subst, append-nil, append_assoc, arith}
use Rattle.std.specs.Prelude.{All, decimal}
use Rattle.std.specs.List.{AllByRecursion}
use Rattle.ring_state.specs.Sizes.{Size, IsSize}
use Rattle.lock_protocol.specs.Names.{IsName}
use Rattle.folder_of_locks.specs.Lists.{Listed, size_of, AreTexts, file_text}
use Rattle.folder_of_locks.specs.Pools.{ArePooledTexts, AreFixed, ArePooled, pool_line, WrittenListsAreRead}

-- numbers between spaces, and what comes after the line
numbers_line : (n k rest : List ℕ) → (n ++ 32 ∷ (k ++ 10 ∷ [])) ++ rest ≡ (n ++ 32 ∷ k) ++ 10 ∷ rest
numbers_line n k rest =
    append_assoc n (32 ∷ (k ++ 10 ∷ [])) rest
    ∙ ap (λ (t : List ℕ). n ++ 32 ∷ t) (append_assoc k (10 ∷ []) rest)
    ∙ sym (append_assoc n (32 ∷ k) (10 ∷ rest))

line_is : (name n k rest : List ℕ) → (name ++ 32 ∷ (n ++ 32 ∷ (k ++ 10 ∷ []))) ++ rest ≡ (name ++ 32 ∷ (n ++ 32 ∷ k)) ++ 10 ∷ rest
line_is name n k rest =
    append_assoc name (32 ∷ (n ++ 32 ∷ (k ++ 10 ∷ []))) rest
    ∙ ap (λ (t : List ℕ). name ++ 32 ∷ t) (numbers_line n k rest)
    ∙ sym (append_assoc name (32 ∷ (n ++ 32 ∷ k)) (10 ∷ rest))

-- the sizes of a list have 32 bits
few : (s : Size) → IsSize s → (s.n < 2 ^ 32) × (s.k < 2 ^ 32)
few s h = let a = h.most_machines in let b = h.most in (omega (arith, a), omega (arith, b))

-- the lines of locks are their texts
lines_read : (ls : List Listed) → All IsSize (map size_of ls) → AllByRecursion (λ (i : Listed). IsName i.name) ls → AreTexts 10 32 (file_text ls) ls
lines_read [] sizes names = refl
lines_read (l ∷ ls) sizes names =
    let bits = few (size_of l) (sizes 0 (size_of l) (omega arith)) in (
      l.name ++ 32 ∷ (decimal l.n ++ 32 ∷ decimal l.k),
      file_text ls,
      line_is l.name (decimal l.n) (decimal l.k) (file_text ls),
      record {
        name = names.0;
        machines = bits.0;
        values = bits.1;
        size = 32 ∷ (decimal l.n ++ 32 ∷ decimal l.k);
        spelled = refl;
        sized = inr (inr refl);
      },
      lines_read ls (λ i d h. sizes (suc i) d (omega arith)) names.1,
    )

fixed_read : (ls : List Listed) → AreFixed ls → AllByRecursion (λ (i : Listed). IsName i.name) ls → AreTexts 10 32 (file_text ls) ls
fixed_read ls (inl none) names = subst (λ (x : List Listed). AreTexts 10 32 (file_text x) x) (sym none) refl
fixed_read ls (inr right) names = lines_read ls right.sizes names

texts_read : (ls : List Listed) (pool : Option Size) → ArePooled ls pool → AllByRecursion (λ (i : Listed). IsName i.name) ls → ArePooledTexts 10 32 (file_text ls ++ pool_line pool) ls pool
texts_read ls None right names = subst (λ (t : List ℕ). AreTexts 10 32 t ls) (sym (append-nil (file_text ls))) (lines_read ls right.sizes names)
texts_read ls (Some s) right names =
    let bits = few s right.1 in
    let text : List ℕ = 32 ∷ (decimal s.n ++ 32 ∷ decimal s.k) in
    let end : decimal s.n ++ 32 ∷ (decimal s.k ++ 10 ∷ []) ≡ (decimal s.n ++ 32 ∷ decimal s.k) ++ 10 ∷ [] = sym (append_assoc (decimal s.n) (32 ∷ decimal s.k) (10 ∷ [])) in (
      file_text ls,
      text,
      ap (λ (t : List ℕ). file_text ls ++ 42 ∷ (32 ∷ t)) end,
      fixed_read ls right.0 names,
      record { machines = bits.0; values = bits.1; sized = inr (inr refl) },
    )

pub written_read : WrittenListsAreRead
written_read l right names = (texts_read l.locks l.pool right names, right)
