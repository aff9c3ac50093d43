-- The numbers of a ring's seats.
use Rattle.std.proofs.Common.{◌≡◌, ℕ, ◌+◌, ◌<◌, ◌≤◌, ◌==◌, ◌++◌, Bool, length-append, List, [], ◌∷◌, true, false, Some, slice_get, slice_index_or, get_or, All, length, map, eqb, zero, suc, subst, ap, sym, ◌∙◌, refl, arith}
use Rattle.std.specs.List.{IsDistinct, AllByRecursion}
use Rattle.std.specs.List.Sorted.{IsPermutation, IsNonDecreasingBy}
use Rattle.std.proofs.lemmas.List.Sorted.{All-permutation, IsPermutation-map, length_permutation}
use Rattle.std.proofs.lemmas.Map.Keys.{IsDistinct-IsPermutation, IsDistinct-head, IsDistinct-tail}
use Rattle.std.proofs.lemmas.Bool.{eqb-false, eqb-true, eq-eqb, ne_eqb, cases_Bool}
use Rattle.std.proofs.Common.{⊎_elim}
use Rattle.std.proofs.lemmas.Option.{slice_get_within}
use Rattle.std.proofs.lemmas.Bool.Decides.{nat_tests}
use Rattle.ring_shared.specs.Client.{Client, IsFreshClient}
use Rattle.ring_shared.specs.Opening.{AreFresh}
use Rattle.ring_shared.proofs.Orders.{IsInOrder}

-- the numbers rise from k on
abbrev Rising : ℕ → List Client → Type 0
Rising k [] = Unit {0}
Rising k (s ∷ ss) = (k ≤ s.number) × Rising (s.number + 1) ss

rising_of : (k : ℕ) (ss : List Client) → IsNonDecreasingBy (λ (s : Client). s.number) ss → IsDistinct eqb (map (λ (s : Client). s.number) ss) → ((d : Client) → 0 < length ss → k ≤ (get_or ss 0 d).number) → Rising k ss
rising_of k [] up apart low = tt
rising_of k (s ∷ []) up apart low = (low s (omega arith), tt)
rising_of k (s ∷ t ∷ ss) up apart low = (
  low s (omega arith),
  rising_of (s.number + 1) (t ∷ ss) (λ i j d le lt. up (suc i) (suc j) d (omega (arith, le)) (omega (arith, lt))) (IsDistinct-tail eqb s.number (t.number ∷ map (λ (s : Client). s.number) ss) apart)
      (λ d lt. let a : s.number ≤ t.number = up 0 (suc zero) d (omega arith) (omega arith) in let b : s.number ≡ t.number → ⊥ = eqb-false _ _ (IsDistinct-head eqb s.number (t.number ∷ map (λ (s : Client). s.number) ss) apart).0 in omega arith),
)

all_tail : (P : Client → Type 0) (s : Client) (ss : List Client) → All P (s ∷ ss) → All P ss
all_tail P s ss h = λ k d lt. h (suc k) d (omega (arith, lt))

all_head : (P : Client → Type 0) (s : Client) (ss : List Client) → All P (s ∷ ss) → P s
all_head P s ss h = h 0 s (omega arith)

-- rising numbers from k on that are below n are at most n - k
rising_few : (n k : ℕ) (ss : List Client) → k ≤ n → Rising k ss → All (λ (s : Client). s.number < n) ss → length ss + k ≤ n
rising_few n k [] le up below = omega arith
rising_few n k (s ∷ ss) le up below =
    let here : s.number < n = all_head (λ (s : Client). s.number < n) s ss below in
    let more = rising_few n (s.number + 1) ss (omega arith) up.1 (all_tail (λ (s : Client). s.number < n) s ss below) in
    let low = up.0 in omega arith

-- where they are just as many, the i-th is k + i
rising_all : (n k : ℕ) (ss : List Client) → n ≡ k + length ss → Rising k ss → All (λ (s : Client). s.number < n) ss → (i : ℕ) (s : Client) → slice_get ss i ≡ Some s → s.number ≡ k + i
rising_all n k [] e up below i s at = cc
rising_all n k (t ∷ ss) e up below zero s at =
    let same : t ≡ s = cc in
    let here : t.number < n = all_head (λ (s : Client). s.number < n) t ss below in
    let few = rising_few n (t.number + 1) ss (omega arith) up.1 (all_tail (λ (s : Client). s.number < n) t ss below) in
    let low = up.0 in
    let is : t.number ≡ k + 0 = omega arith in
    subst (λ (u : Client). u.number ≡ k + 0) same is
rising_all n k (t ∷ ss) e up below (suc i) s at =
    let here : t.number < n = all_head (λ (s : Client). s.number < n) t ss below in
    let few = rising_few n (t.number + 1) ss (omega arith) up.1 (all_tail (λ (s : Client). s.number < n) t ss below) in
    let low = up.0 in
    let rest = rising_all n (t.number + 1) ss (omega arith) up.1 (all_tail (λ (s : Client). s.number < n) t ss below) i s at in
    omega arith

flips : (x y : ℕ) → eqb x y ≡ eqb y x
flips x y = ⊎_elim
    (λ (t : eqb x y ≡ true). t ∙ sym (eq-eqb y x (sym (eqb-true x y t))))
    (λ (f : eqb x y ≡ false). f ∙ sym (ne_eqb y x (λ e. eqb-false x y f (sym e))))
    (cases_Bool (eqb x y))

-- as many as there are numbers, and no two alike: each number occurs, and in order the i-th is i
pub in_order : (n : ℕ) (ss rs : List Client) → IsPermutation ss rs → IsNonDecreasingBy (λ (s : Client). s.number) rs → IsDistinct eqb (map (λ (s : Client). s.number) ss)
    → All (λ (s : Client). s.number < n) ss → n ≤ length ss → (length rs ≡ n) × IsInOrder rs
in_order n ss rs p up apart below many =
    let apart' = IsDistinct-IsPermutation eqb flips (map (λ (s : Client). s.number) ss) (map (λ (s : Client). s.number) rs) (IsPermutation-map (λ (s : Client). s.number) ss rs p) apart in
    let below' = All-permutation (λ (s : Client). s.number < n) ss rs p below in
    let len = length_permutation ss rs p in
    let rise = rising_of 0 rs up apart' (λ d lt. omega arith) in
    let few = rising_few n 0 rs (omega arith) rise below' in
    let same : length rs ≡ n = omega arith in
    (same, λ i s at. let e = rising_all n 0 rs (omega arith) rise below' i s at in omega arith)

next_in_order : (k : ℕ) (s : Client) (ss : List Client) → ((i : ℕ) (t : Client) → slice_get (s ∷ ss) i ≡ Some t → t.number ≡ k + i) → (i : ℕ) (t : Client) → slice_get ss i ≡ Some t → t.number ≡ k + 1 + i
next_in_order k s ss h i t at = let e = h (suc i) t at in omega arith

other_numbers : (x k : ℕ) (ss : List Client) → x < k → ((i : ℕ) (t : Client) → slice_get ss i ≡ Some t → t.number ≡ k + i) → AllByRecursion (λ y. eqb x y ≡ false) (map (λ (s : Client). s.number) ss)
other_numbers x k [] lt h = tt
other_numbers x k (s ∷ ss) lt h = (ne_eqb x s.number (λ e. let n = h 0 s refl in absurd (omega arith)), other_numbers x (k + 1) ss (omega arith) (next_in_order k s ss h))

distinct_from : (k : ℕ) (ss : List Client) → ((i : ℕ) (t : Client) → slice_get ss i ≡ Some t → t.number ≡ k + i) → IsDistinct eqb (map (λ (s : Client). s.number) ss)
unfolding IsDistinct
distinct_from k [] h = tt
distinct_from k (s ∷ ss) h = let n = h 0 s refl in (other_numbers s.number (k + 1) ss (omega arith) (next_in_order k s ss h), distinct_from (k + 1) ss (next_in_order k s ss h))

-- clients in order have distinct numbers
pub in_order_distinct : (ss : List Client) → IsInOrder ss → IsDistinct eqb (map (λ (s : Client). s.number) ss)
in_order_distinct ss o = distinct_from 0 ss (λ i s at. let e = o i s at in omega arith)

pub fresh_distinct : (n : ℕ) (ss : List Client) → AreFresh n ss → IsDistinct eqb (map (λ (s : Client). s.number) ss)
fresh_distinct n ss f = in_order_distinct ss (λ i s at.
    let within : i < length ss = slice_get_within ss i s at in
    let count = f.count in
    let h = f.each i (omega arith) in
    let is = sym h.1 ∙ at in
    let same : h.0 ≡ s = cc in
    sym (ap (λ (t : Client). t.number) same) ∙ ap (λ (t : Client). t.number) h.2)

get_before : (ss : List Client) (s : Client) (i : ℕ) → i < length ss → slice_get (ss ++ s ∷ []) i ≡ slice_get ss i
get_before [] s i l = absurd (omega arith)
get_before (t ∷ ss) s zero l = refl
get_before (t ∷ ss) s (suc i) l = get_before ss s i (omega arith)

get_end : (ss : List Client) (s : Client) → slice_get (ss ++ s ∷ []) (length ss) ≡ Some s
get_end [] s = refl
get_end (t ∷ ss) s = get_end ss s

each_more : (n : ℕ) (ss : List Client) (s : Client) → AreFresh n ss → IsFreshClient n s → (i : ℕ) → i < n + 1 → (b : Bool) → (i == n) ≡ b →
    (t : Client) × (slice_get (ss ++ s ∷ []) i ≡ Some t) × IsFreshClient i t
each_more n ss s f is i within true e =
    let same : i ≡ n = eqb-true i n e in
    let here : slice_get (ss ++ s ∷ []) n ≡ Some s = subst (λ (k : ℕ). slice_get (ss ++ s ∷ []) k ≡ Some s) f.count (get_end ss s) in
    subst (λ (k : ℕ). (t : Client) × (slice_get (ss ++ s ∷ []) k ≡ Some t) × IsFreshClient k t) (sym same) (s, here, is)
each_more n ss s f is i within false e =
    let other = eqb-false i n e in
    let count = f.count in
    let below : i < n = grind (arith, nat_tests) in
    let h = f.each i below in
    (h.0, get_before ss s i (omega arith) ∙ h.1, h.2)

-- one fresh client more
pub fresh_more : (n : ℕ) (ss : List Client) (s : Client) → AreFresh n ss → IsFreshClient n s → AreFresh (n + 1) (ss ++ s ∷ [])
fresh_more n ss s f is = record {
  count = (let count = f.count in omega (arith, length-append ss (s ∷ [])));
  each = λ i within. each_more n ss s f is i within (i == n) refl;
}

-- seats that keep their numbers
pub numbers_kept : (xs ys : List Client) → length ys ≡ length xs → ((i : ℕ) (d : Client) → i < length xs → (slice_index_or ys i d).number ≡ (slice_index_or xs i d).number) →
    map (λ (s : Client). s.number) ys ≡ map (λ (s : Client). s.number) xs
numbers_kept [] [] long same = refl
numbers_kept [] (y ∷ ys) long same = absurd (omega arith)
numbers_kept (x ∷ xs) [] long same = absurd (omega arith)
numbers_kept (x ∷ xs) (y ∷ ys) long same =
    let here : y.number ≡ x.number = same 0 x (omega arith) in
    let more = numbers_kept xs ys (omega arith) (λ i d lt. same (suc i) d (omega arith)) in
    rw (here, more) refl

-- a fact that a call kept of its argument is kept of the value there before
pub through : (x y argument left : Client) → argument ≡ x → left ≡ y → left.number ≡ argument.number → y.number ≡ x.number
through x y argument left is_x is_y same = sym (ap (λ (s : Client). s.number) is_y) ∙ same ∙ ap (λ (s : Client). s.number) is_x
