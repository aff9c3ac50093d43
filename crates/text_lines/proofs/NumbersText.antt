-- Numbers, one after the other: rows and lists are such.
use Rattle.std.proofs.Common.{◌≡◌, ℕ, zero, suc, ◌+◌, ◌-◌, ◌^◌, ◌<◌, List, [], ◌∷◌, ◌++◌, length, drop, get_or, length-drop, Result, Ok, Err, refl, sym, ap, subst, ◌∙◌, append_assoc, arith, inl, inr}
use Rattle.std.specs.Prelude.{IfOk}
use Rattle.std.specs.List.{AllByRecursion}
use Rattle.std.proofs.lemmas.Bool.{cases_lt}
use Rattle.std.specs.Fmt.{decimal}
use Rattle.std.proofs.lemmas.List.{append-nil, drop_more}
use Rattle.text_lines.specs.Spelling.{row, list_text, numbers_text, stop_text}

module _ (between behind : List ℕ) where
  -- numbers are the first one, the bytes after it, and the others
  numbers_step : (k x : ℕ) (xs : List ℕ) → length xs ≡ k → numbers_text between behind (x ∷ xs) ≡ (decimal x ++ stop_text between behind k) ++ numbers_text between behind xs
  numbers_step zero x [] e = sym (append-nil (decimal x ++ behind))
  numbers_step zero x (y ∷ ys) e = absurd cc
  numbers_step (suc k) x [] e = absurd cc
  numbers_step (suc k) x (y ∷ ys) e = sym (append_assoc (decimal x) between (numbers_text between behind (y ∷ ys)))

  -- the rest is the next number, the bytes after it, and the rest of that
  pub numbers_next : (numbers : List ℕ) (i : ℕ) → i < length numbers →
      numbers_text between behind (drop i numbers) ≡ (decimal (get_or numbers i 0) ++ (stop_text between behind (length numbers - i - 1) ++ [])) ++ numbers_text between behind (drop (i + 1) numbers)
  numbers_next numbers i lt =
      let l : length (drop (i + 1) numbers) ≡ length numbers - i - 1 = omega (arith, length-drop (i + 1) numbers) in
      rw (drop_more numbers i 0 lt, append-nil (stop_text between behind (length numbers - i - 1))) (numbers_step (length numbers - i - 1) (get_or numbers i 0) (drop (i + 1) numbers) l)

pub row_is : (xs : List ℕ) → numbers_text (32 ∷ []) (10 ∷ []) xs ≡ row xs
row_is [] = refl
row_is (x ∷ []) = refl
row_is (x ∷ y ∷ xs) = ap (λ (u : List ℕ). decimal x ++ 32 ∷ u) (row_is (y ∷ xs)) ∙ sym (append_assoc (decimal x) (32 ∷ []) (row (y ∷ xs)))

pub list_is : (xs : List ℕ) → numbers_text (44 ∷ []) [] xs ≡ list_text xs
list_is [] = refl
list_is (x ∷ []) = append-nil (decimal x)
list_is (x ∷ y ∷ xs) = ap (λ (u : List ℕ). decimal x ++ 44 ∷ u) (list_is (y ∷ xs))

-- a fact below a place and at it
pub one_more : (P : ℕ → Type 0) (n : ℕ) → ((i : ℕ) → i < n → P i) → P n → (i : ℕ) → i < n + 1 → P i
one_more P n below here i lt = elim (cases_lt i n) [ inl l ↦ below i l | inr ge ↦ let e : n ≡ i = omega arith in subst P e here ]

each_small : (xs : List ℕ) → ((i : ℕ) → i < length xs → get_or xs i 0 < 2 ^ 32) → AllByRecursion (λ x. x < 2 ^ 32) xs
each_small [] h = tt
each_small (x ∷ xs) h = (h 0 (omega arith), each_small xs (λ i lt. h (suc i) (omega (arith, lt))))

-- numbers that were all answered are small where each answer is such
pub small_where_asked : {X E : Type 0} (r : Result X E) (xs : List ℕ) (Answers : ℕ → ℕ → Type 0) → ((i answer : ℕ) → i < length xs → Answers i answer → get_or xs i 0 < 2 ^ 32) →
    IfOk r (λ _. (i : ℕ) → i < length xs → (answer : ℕ) × Answers i answer) → IfOk r (λ _. AllByRecursion (λ x. x < 2 ^ 32) xs)
small_where_asked (Ok u) xs Answers small asked = each_small xs (λ i lt. let a = asked i lt in small i a.0 lt a.1)
small_where_asked (Err e) xs Answers small asked = asked
