-- A list of locks, lock by lock.
use Rattle.std.proofs.Common.{◌≡◌, ◌≢◌, ◌∙◌, ◌⊎◌, inl, inr, ℕ, suc, true, false, map, ◌+◌, ◌<◌, List, [], ◌∷◌, ◌++◌, length, refl, sym, ap, subst, append-nil, append_assoc, length-append, arith}
use Rattle.std.specs.Prelude.{◌==◌}
use Rattle.std.proofs.lemmas.Bool.Decides.{nat_tests}
use Rattle.folder_of_locks.specs.declared.locks.ListedLock.{ListedLock}
use Rattle.folder_of_locks.specs.declared.locks.ListError.{ListError}
use Rattle.folder_of_locks.specs.declared.locks.ListError.TheVariants as refused
use Rattle.folder_of_locks.specs.Lists.{Listed, listed, IsLockText, AreTexts, IsLocksFault, IsTextsFault}
use Rattle.folder_of_locks.specs.ListSteps.{IsPlain, AreMarks, HasRead, IsReadFault, IsPieceFault}
use Rattle.folder_of_locks.proofs.Cuts.{first_cut, text_plain, not_in}

-- before the first lock all is left
pub read_none : (end mark : ℕ) (text : List ℕ) → HasRead end mark text [] text
read_none end mark text = record { makes = λ tail more h. h; leaves = λ tail all h. (all, h, omega arith) }

something : (a : List ℕ) (x : ℕ) (b : List ℕ) → a ++ x ∷ b ≡ [] → ⊥
something [] x b e = absurd cc
something (y ∷ a) x b e = absurd cc

-- the first of some locks, by its text
record First (end mark : ℕ) (piece u : List ℕ) (all : List Listed) : Type 0 where
  first : Listed
  more : List Listed
  is : all ≡ first ∷ more
  text : IsLockText mark piece first
  rest : AreTexts end mark u more

first_of : (end mark : ℕ) (bytes piece u : List ℕ) (all : List Listed) → AreMarks end mark → AreTexts end mark bytes all → bytes ≡ piece ++ end ∷ u → IsPlain end piece → First end mark piece u all
first_of end mark bytes piece u [] marks h is plain = absurd (something piece end u (sym is ∙ h))
first_of end mark bytes piece u (l ∷ ls) marks h is plain =
    let both = first_cut end h.0 h.1 piece u (text_plain end mark h.0 l marks h.3) plain (sym h.2 ∙ is) in
    record {
      first = l;
      more = ls;
      is = refl;
      text = subst (λ (t : List ℕ). IsLockText mark t l) both.0 h.3;
      rest = subst (λ (t : List ℕ). AreTexts end mark t ls) both.1 h.4;
    }

pub with_tail : (end : ℕ) (rest piece more tail : List ℕ) → rest ≡ piece ++ end ∷ more → rest ++ tail ≡ piece ++ end ∷ (more ++ tail)
with_tail end rest piece more tail is = ap (λ (t : List ℕ). t ++ tail) is ∙ append_assoc piece (end ∷ more) tail

-- a lock more
pub read_more : (end mark : ℕ) (bytes rest piece more : List ℕ) (ls : List Listed) (l : Listed) → AreMarks end mark → HasRead end mark bytes ls rest → rest ≡ piece ++ end ∷ more → IsPlain end piece → IsLockText mark piece l → HasRead end mark bytes (ls ++ l ∷ []) more
read_more end mark bytes rest piece more ls l marks h is plain text = record { makes = makes; leaves = leaves }
  where
    makes : (tail : List ℕ) (others : List Listed) → AreTexts end mark (more ++ tail) others → AreTexts end mark (bytes ++ tail) ((ls ++ l ∷ []) ++ others)
    makes tail others a =
        subst (AreTexts end mark (bytes ++ tail)) (sym (append_assoc ls (l ∷ []) others)) (h.makes tail (l ∷ others) (piece, more ++ tail, with_tail end rest piece more tail is, text, a))

    leaves : (tail : List ℕ) (all : List Listed) → AreTexts end mark (bytes ++ tail) all → (others : List Listed) × AreTexts end mark (more ++ tail) others × (length all ≡ length (ls ++ l ∷ []) + length others)
    leaves tail all a =
        let left = h.leaves tail all a in
        let first = first_of end mark (rest ++ tail) piece (more ++ tail) left.0 marks left.1 (with_tail end rest piece more tail is) plain in
        let many : length left.0 ≡ suc (length first.more) = ap (λ (x : List Listed). length x) first.is in
        (first.more, first.rest, omega (arith, left.2, many, length-append ls (l ∷ [])))

-- a piece that is not a lock's text
pub bad_piece : (end mark : ℕ) (bytes rest piece more tail : List ℕ) (ls : List Listed) (e : ListError) → AreMarks end mark → HasRead end mark bytes ls rest → rest ++ tail ≡ piece ++ end ∷ more → IsPlain end piece → IsPieceFault mark piece e →
    IsReadFault end mark (bytes ++ tail) e
bad_piece end mark bytes rest piece more tail ls refused.Syntax marks h is plain none = λ all a.
    let left = h.leaves tail all a in
    let first = first_of end mark (rest ++ tail) piece more left.0 marks left.1 is plain in
    none first.first first.text
bad_piece end mark bytes rest piece more tail ls refused.OutOfMemory marks h is plain none = tt
bad_piece end mark bytes rest piece more tail ls refused.Many marks h is plain none = none
bad_piece end mark bytes rest piece more tail ls (refused.Size i c) marks h is plain none = none
bad_piece end mark bytes rest piece more tail ls (refused.Twice i) marks h is plain none = none

-- the last lock, whose end is not there
pub read_last : (end mark : ℕ) (bytes rest : List ℕ) (ls : List Listed) (l : Listed) → HasRead end mark bytes ls rest → IsLockText mark rest l → AreTexts end mark (bytes ++ end ∷ []) (ls ++ l ∷ [])
read_last end mark bytes rest ls l h text = h.makes (end ∷ []) (l ∷ []) (rest, [], refl, text, refl)

-- all locks, where nothing is left
pub read_all : (end mark : ℕ) (bytes rest : List ℕ) (ls : List Listed) → HasRead end mark bytes ls rest → rest ≡ [] → AreTexts end mark bytes ls
read_all end mark bytes rest ls h none =
    let whole : AreTexts end mark (bytes ++ []) (ls ++ []) = h.makes [] [] (ap (λ (t : List ℕ). t ++ []) none) in
    subst (λ (t : List ℕ). AreTexts end mark t ls) (append-nil bytes) (subst (AreTexts end mark (bytes ++ [])) (append-nil ls) whole)

left_over : (end mark : ℕ) (bytes : List ℕ) (all : List Listed) → AreTexts end mark bytes all → IsPlain end bytes → bytes ≡ []
left_over end mark bytes [] h plain = h
left_over end mark bytes (l ∷ ls) h plain = absurd (not_in end h.0 h.1 (subst (IsPlain end) h.2 plain))

no_text : (end mark : ℕ) (all : List Listed) → AreTexts end mark [] all → length all ≡ 0
no_text end mark [] h = refl
no_text end mark (l ∷ ls) h = absurd (something h.0 end h.1 (sym h.2))

-- something is left after the last end
pub no_front : (end mark : ℕ) (bytes rest : List ℕ) (ls : List Listed) → HasRead end mark bytes ls rest → IsPlain end rest → rest ≢ [] → (all : List Listed) → AreTexts end mark bytes all → ⊥
no_front end mark bytes rest ls h plain some all a =
    let left = h.leaves [] all (subst (λ (t : List ℕ). AreTexts end mark t all) (sym (append-nil bytes)) a) in
    some (left_over end mark rest left.0 (subst (λ (t : List ℕ). AreTexts end mark t left.0) (append-nil rest) left.1) plain)

-- something is left after the last end, or there is no lock
pub no_list : (end mark : ℕ) (bytes rest : List ℕ) (ls : List Listed) → HasRead end mark bytes ls rest → IsPlain end rest → (rest ≢ []) ⊎ (length ls ≡ 0) → (all : List Listed) → 0 < length all → AreTexts end mark bytes all → ⊥
no_list end mark bytes rest ls h plain why all some a =
    let left = h.leaves [] all (subst (λ (t : List ℕ). AreTexts end mark t all) (sym (append-nil bytes)) a) in
    let texts : AreTexts end mark rest left.0 = subst (λ (t : List ℕ). AreTexts end mark t left.0) (append-nil rest) left.1 in
    let none : rest ≡ [] = left_over end mark rest left.0 texts plain in
    let zero : length left.0 ≡ 0 = no_text end mark left.0 (subst (λ (t : List ℕ). AreTexts end mark t left.0) none texts) in
    elim why [ inl other ↦ other none | inr few ↦ absurd (omega (arith, left.2, zero, few, some)) ]

-- a refusal of bytes that are not texts, and one of the locks that they are the texts of
pub of_texts : (end mark : ℕ) (bytes : List ℕ) (e : ListError) → IsReadFault end mark bytes e → IsTextsFault end mark bytes e
of_texts end mark bytes refused.Syntax h = λ ls some. h ls
of_texts end mark bytes refused.OutOfMemory h = tt
of_texts end mark bytes refused.Many h = absurd h
of_texts end mark bytes (refused.Size i c) h = absurd h
of_texts end mark bytes (refused.Twice i) h = absurd h

pub of_locks : (end mark : ℕ) (bytes : List ℕ) (ls : List Listed) (e : ListError) → AreTexts end mark bytes ls → IsLocksFault ls e → IsTextsFault end mark bytes e
of_locks end mark bytes ls refused.Syntax h f = absurd f
of_locks end mark bytes ls refused.OutOfMemory h f = tt
of_locks end mark bytes ls refused.Many h f = (ls, h, f)
of_locks end mark bytes ls (refused.Size i c) h f = (ls, h, f)
of_locks end mark bytes ls (refused.Twice i) h f = (ls, h, f)

-- what tests of emptiness say
pub empty : (xs : List ℕ) → true ≡ (length xs == 0) → xs ≡ []
empty [] h = refl
empty (x ∷ xs) h = grind (arith, nat_tests, h)

pub filled : (xs : List ℕ) → false ≡ (length xs == 0) → xs ≢ []
filled xs h none = let same : length xs ≡ 0 = ap (λ (t : List ℕ). length t) none in grind (arith, nat_tests, h, same)

pub none_listed : (xs : List ListedLock) → true ≡ (length xs == 0) → length (map listed xs) ≡ 0
none_listed [] h = refl
none_listed (x ∷ xs) h = grind (arith, nat_tests, h)
