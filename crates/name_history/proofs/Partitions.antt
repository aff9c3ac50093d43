-- A list of which a front passes a test, and nothing after it.
use Rattle.std.proofs.Common.{◌≡◌, ℕ, zero, suc, ◌<◌, ◌≤◌, Bool, true, false, cond, List, [], ◌∷◌, ◌++◌, length, take, get_or, Option, None, Some, refl, ap, sym, ◌∙◌, arith}
use Rattle.std.specs.List.{filter, last_or}
use Rattle.std.proofs.lemmas.Bool.{false≢true}

abbrev pub one : {X : Type 0} → (X → Bool) → X → List X → Bool → List X
one p x xs b = cond b (x ∷ filter p xs) (filter p xs)

pub take_passing : {X : Type 0} (p : X → Bool) (xs : List X) (i : ℕ) → i ≤ length xs → ((k : ℕ) (d : X) → k < i → p (get_or xs k d) ≡ true) → ((k : ℕ) (d : X) → i ≤ k → k < length xs → p (get_or xs k d) ≡ false)
    → take i xs ≡ filter p xs
take_passing p [] zero le passes fails = refl
take_passing p [] (suc i) le passes fails = refl
take_passing p (x ∷ xs) zero le passes fails =
    take_passing p xs zero (omega arith) (λ k d lt. absurd (omega (arith, lt))) (λ k d from lt. fails (suc k) d (omega arith) (omega (arith, lt)))
    ∙ sym (ap (one p x xs) (fails zero x (omega arith) (omega arith)))
take_passing p (x ∷ xs) (suc i) le passes fails =
    ap (λ (ys : List _). x ∷ ys) (take_passing p xs i (omega (arith, le)) (λ k d lt. passes (suc k) d (omega (arith, lt))) (λ k d from lt. fails (suc k) d (omega (arith, from)) (omega (arith, lt))))
    ∙ sym (ap (one p x xs) (passes zero x (omega arith)))

-- what passes the first of two tests, of which it implies the second
step : {X : Type 0} (p q : X → Bool) → ((x : X) → p x ≡ true → q x ≡ true) → (x : X) (xs : List X) → filter p (filter q xs) ≡ filter p xs → (b c : Bool) → q x ≡ b → p x ≡ c
    → filter p (one q x xs b) ≡ one p x xs c
step p q both x xs same true c is so = ap (one p x (filter q xs)) so ∙ ap (λ (ys : List _). cond c (x ∷ ys) ys) same
step p q both x xs same false true is so = absurd (false≢true (sym is ∙ both x so))
step p q both x xs same false false is so = same

pub filter_twice : {X : Type 0} (p q : X → Bool) → ((x : X) → p x ≡ true → q x ≡ true) → (xs : List X) → filter p (filter q xs) ≡ filter p xs
filter_twice p q both [] = refl
filter_twice p q both (x ∷ xs) = step p q both x xs (filter_twice p q both xs) (q x) (p x) refl refl

-- the last of a list with this item is the last from it on
pub last_over : {X : Type 0} (xs ys : List X) (y : X) (o : Option X) → last_or o (xs ++ y ∷ ys) ≡ last_or (Some y) ys
last_over [] ys y o = refl
last_over (x ∷ xs) ys y o = last_over xs ys y (Some x)

pub last_at : {X : Type 0} (xs : List X) (k : ℕ) (o : Option X) (d : X) → k < length xs → last_or o (take (suc k) xs) ≡ Some (get_or xs k d)
last_at [] k o d lt = absurd (omega (arith, lt))
last_at (x ∷ xs) zero o d lt = refl
last_at (x ∷ xs) (suc k) o d lt = last_at xs k (Some x) d (omega (arith, lt))

-- the last of the first n
pub last_taken : {X : Type 0} (xs : List X) (n k : ℕ) (x : X) → suc k ≡ n → n ≤ length xs → x ≡ get_or xs k x → Some x ≡ last_or None (take n xs)
last_taken xs n k x is le same =
    ap Some same
    ∙ sym (last_at xs k None x (omega (arith, is, le)))
    ∙ ap (λ (m : ℕ). last_or None (take m xs)) is
