-- Whoever always passes the first privileged machine: after a step of machine 0 its value spreads from machine to machine, up to
-- the last change of value.
use Rattle.std.proofs.Common.{◌≡◌, ℕ, zero, suc, ◌+◌, ◌-◌, ◌<◌, ◌≤◌, ◌≢◌, Bool, true, false, not, cond, ◌&&◌, List, [], ◌∷◌, ◌++◌, length, get_or, replicate, refl, sym, ◌∙◌, ap, subst, inl, inr, arith, eqb}
use Rattle.std.proofs.lemmas.Bool.{cases_lt, cases_Bool, cond-true, cond-false, eq-eqb, ne_eqb, eqb-true, not-true, not-false, not_from_true, not_from_false, and_from, both_ways, false_from_ne_true}
use Rattle.std.proofs.Math.Nat.{mod-eq_of_lt}
use Rattle.std.proofs.lemmas.List.{get_or-replicate, length-replicate, length-append}
use Rattle.std.proofs.Math.ListN.{get_or-append}
use Rattle.ring_model.specs.Numbers.{every_below, count_below, bit}
use Rattle.ring_model.specs.Ring.{Ring, ring_with, IsRing, is_privileged, moved, right_neighbour, privileged_count, first_privileged, is_settled}
use Rattle.ring_model.specs.Runs.{passed, after_passes}
use Rattle.ring_model.specs.RepairLaws.{AreFirst, has_privileged_after, has_to_copy, copies_left, passes_left, FirstPassesCount, PassesLeftMeans, FirstPassesSettle, FirstPassesAreSharp}
use Rattle.ring_model.proofs.Below.{sum_only, sum_zero, sum_but_one, bit_at, bit_le, every_at, every_from, least_below_fails}
use Rattle.ring_model.proofs.Moves.{length_move, at_mover, at_other, next_is, mover_loses, others_same}
use Rattle.ring_model.proofs.Settled.{move_ring, settled_stays, only_one, first_is}
use Rattle.ring_model.proofs.Runs.{pass_granted, pass_ring}
use Rattle.ring_model.proofs.QuietRuns.{granted_on}

and_off : (a b : Bool) → a ≡ false → (a && b) ≡ false
and_off false b e = refl
and_off true b e = absurd (both_ways true e refl)

off_and : (a b : Bool) → b ≡ false → (a && b) ≡ false
off_and false b e = refl
off_and true b e = e

every_same : (p q : ℕ → Bool) (n : ℕ) → ((k : ℕ) → k < n → p k ≡ q k) → every_below p n ≡ every_below q n
every_same p q zero h = refl
every_same p q (suc n) h = rw (h n (omega arith)) (ap (λ (x : Bool). q n && x) (every_same p q n (λ k l. h k (omega arith))))

-- machines before the first privileged one hold the value of machine 0

first_fails : (s : List ℕ) (k : ℕ) → k < first_privileged s → is_privileged s k ≡ false
first_fails s k l = least_below_fails (is_privileged s) 0 (length s) k (omega arith) l

front_same : (s : List ℕ) (i : ℕ) → i < first_privileged s → get_or s i 0 ≡ get_or s 0 0
front_same s zero l = refl
front_same s (suc i) l =
    sym (eqb-true (get_or s i 0) (get_or s (suc i) 0) (not-false (eqb (get_or s i 0) (get_or s (suc i) 0)) (first_fails s (suc i) l)))
    ∙ front_same s i (omega arith)

-- privileged machines to the right of a machine

after_none : (s : List ℕ) (i : ℕ) → ((j : ℕ) → i < j → j < length s → is_privileged s j ≡ false) → has_privileged_after s i ≡ false
after_none s i h = not_from_true (every_below (λ d. not (is_privileged s (i + 1 + d))) (length s - 1 - i))
    (every_from (λ d. not (is_privileged s (i + 1 + d))) (length s - 1 - i)
    (λ d l. not_from_false (is_privileged s (i + 1 + d)) (h (i + 1 + d) (omega arith) (omega arith))))

after_off : (s : List ℕ) (i : ℕ) → has_privileged_after s i ≡ false → (j : ℕ) → i < j → j < length s → is_privileged s j ≡ false
after_off s i off j l lj =
    let at : i + 1 + (j - i - 1) ≡ j = omega arith in
    let all : every_below (λ d. not (is_privileged s (i + 1 + d))) (length s - 1 - i) ≡ true =
    not-false (every_below (λ d. not (is_privileged s (i + 1 + d))) (length s - 1 - i)) off in
    sym (ap (is_privileged s) at)
    ∙ not-true (is_privileged s (i + 1 + (j - i - 1))) (every_at (λ d. not (is_privileged s (i + 1 + d))) (length s - 1 - i) (j - i - 1) all (omega arith))

after_some : (s : List ℕ) (i j : ℕ) → i < j → j < length s → is_privileged s j ≡ true → has_privileged_after s i ≡ true
after_some s i j l lj y = elim (cases_Bool (has_privileged_after s i)) [
  | inl some ↦ some
  | inr off ↦ absurd (both_ways (is_privileged s j) (after_off s i off j l lj) y)
]

after_same : (s t : List ℕ) (i : ℕ) → length t ≡ length s → ((j : ℕ) → i < j → j < length s → is_privileged t j ≡ is_privileged s j) →
    has_privileged_after t i ≡ has_privileged_after s i
after_same s t i n h =
    ap (λ (x : ℕ). not (every_below (λ d. not (is_privileged t (i + 1 + d))) (x - 1 - i))) n
    ∙ ap not (every_same (λ d. not (is_privileged t (i + 1 + d))) (λ d. not (is_privileged s (i + 1 + d))) (length s - 1 - i)
    (λ d l. ap not (h (i + 1 + d) (omega arith) (omega arith))))

-- where no other is privileged, the ring is settled
alone_settled : (s : List ℕ) (f : ℕ) → f < length s → is_privileged s f ≡ true → ((j : ℕ) → j < length s → j ≢ f → is_privileged s j ≡ false) → is_settled s ≡ true
alone_settled s f l y off =
    let c : privileged_count s ≡ bit (is_privileged s f) = sum_only (λ k. bit (is_privileged s k)) f (length s) l (λ k lk ne. bit_at (is_privileged s k) false (off k lk ne)) in
    let one : bit (is_privileged s f) ≡ 1 = bit_at (is_privileged s f) true y in
    eq-eqb (privileged_count s) 1 (c ∙ one)

-- so in a ring that is not settled some machine to the right of the first privileged one is too
pub unsettled_after : (s : List ℕ) → 1 ≤ length s → is_settled s ≡ false → has_privileged_after s (first_privileged s) ≡ true
unsettled_after s one u = elim (cases_Bool (has_privileged_after s (first_privileged s))) [
  | inl y ↦ y
  | inr off ↦
      let f = first_is s one in
      absurd (both_ways (is_settled s) u (alone_settled s (first_privileged s) f.0 f.1
      (λ j l ne. elim (cases_lt j (first_privileged s)) [
        | inl before ↦ first_fails s j before
        | inr past ↦ after_off s (first_privileged s) off j (omega arith) l
      ])))
]

-- what is left to copy where machine 0 is not privileged

-- nothing in a settled ring
settled_no_copies : (s : List ℕ) → 1 ≤ length s → is_privileged s 0 ≡ false → is_settled s ≡ true → copies_left s ≡ 0
settled_no_copies s one off u =
    let f = first_is s one in
    sum_zero (λ k. bit (has_to_copy s k)) (length s) (λ i l. bit_at (has_to_copy s i) false (elim (cases_lt i (first_privileged s)) [
      | inl before ↦ and_off (not (eqb (get_or s i 0) (get_or s 0 0))) (has_privileged_after s i)
          (not_from_true (eqb (get_or s i 0) (get_or s 0 0)) (eq-eqb (get_or s i 0) (get_or s 0 0) (front_same s i before)))
      | inr past ↦ off_and (not (eqb (get_or s i 0) (get_or s 0 0))) (has_privileged_after s i)
          (after_none s i (λ j lj l'. false_from_ne_true (is_privileged s j) (λ y.
          let same : j ≡ first_privileged s = only_one s j (first_privileged s) u l' f.0 y f.1 in
          absurd (omega arith))))
    ]))

-- one less after a pass of the first privileged machine of a ring that is not settled
copy_counts : (r : Ring) (f : ℕ) → IsRing r → is_settled r.values ≡ false → first_privileged r.values ≡ suc f →
    copies_left r.values ≡ copies_left (moved r (suc f)).values + 1
copy_counts r f g u at =
    let s : List ℕ = r.values in
    let t : List ℕ = (moved r (suc f)).values in
    let two = g.two in
    let first = first_is s (omega arith) in
    let inside : suc f < length s = let l : first_privileged s < length s = first.0 in omega arith in
    let on : is_privileged s (suc f) ≡ true = sym (ap (is_privileged s) at) ∙ first.1 in
    let n : length t ≡ length s = length_move r (suc f) in
    let zero' : get_or t 0 0 ≡ get_or s 0 0 = at_other r (suc f) 0 (omega arith) in
    let left' : get_or s f 0 ≡ get_or s 0 0 = front_same s f (omega arith) in
    let differs : get_or s (suc f) 0 ≢ get_or s 0 0 = λ q.
    both_ways (is_privileged s (suc f)) (not_from_true (eqb (get_or s f 0) (get_or s (suc f) 0)) (eq-eqb (get_or s f 0) (get_or s (suc f) 0) (left' ∙ sym q))) on in
    let before : bit (has_to_copy s (suc f)) ≡ 1 = bit_at (has_to_copy s (suc f)) true
    (and_from (not (eqb (get_or s (suc f) 0) (get_or s 0 0))) (has_privileged_after s (suc f))
    (not_from_false (eqb (get_or s (suc f) 0) (get_or s 0 0)) (ne_eqb (get_or s (suc f) 0) (get_or s 0 0) differs))
    (sym (ap (has_privileged_after s) at) ∙ unsettled_after s (omega arith) u)) in
    let copied : get_or t (suc f) 0 ≡ get_or t 0 0 = at_mover r (suc f) inside ∙ (left' ∙ sym zero') in
    let none : bit (has_to_copy t (suc f)) ≡ 0 = bit_at (has_to_copy t (suc f)) false
    (and_off (not (eqb (get_or t (suc f) 0) (get_or t 0 0))) (has_privileged_after t (suc f))
    (not_from_true (eqb (get_or t (suc f) 0) (get_or t 0 0)) (eq-eqb (get_or t (suc f) 0) (get_or t 0 0) copied))) in
    let others : (k : ℕ) → k < length s → k ≢ suc f → has_to_copy s k ≡ has_to_copy t k = λ k l ne.
    let same : get_or t k 0 ≡ get_or s k 0 = at_other r (suc f) k ne in
    elim (cases_lt k (suc f)) [
      | inl early ↦
          let a : get_or s k 0 ≡ get_or s 0 0 = front_same s k (omega arith) in
          let b : get_or t k 0 ≡ get_or t 0 0 = same ∙ (a ∙ sym zero') in
          and_off (not (eqb (get_or s k 0) (get_or s 0 0))) (has_privileged_after s k)
          (not_from_true (eqb (get_or s k 0) (get_or s 0 0)) (eq-eqb (get_or s k 0) (get_or s 0 0) a))
          ∙ sym (and_off (not (eqb (get_or t k 0) (get_or t 0 0))) (has_privileged_after t k)
          (not_from_true (eqb (get_or t k 0) (get_or t 0 0)) (eq-eqb (get_or t k 0) (get_or t 0 0) b)))
      | inr late ↦
          let a : has_privileged_after t k ≡ has_privileged_after s k = after_same s t k n (λ j lj l'. unmoved r (suc f) j (omega arith)) in
          ap (λ (x : Bool). not (eqb (get_or s k 0) (get_or s 0 0)) && x) (sym a)
          ∙ (ap (λ (x : ℕ). not (eqb x (get_or s 0 0)) && has_privileged_after t k) (sym same)
          ∙ ap (λ (x : ℕ). not (eqb (get_or t k 0) x) && has_privileged_after t k) (sym zero'))
    ] in
    let sums : count_below (has_to_copy s) (length s) + bit (has_to_copy t (suc f)) ≡ count_below (has_to_copy t) (length s) + bit (has_to_copy s (suc f)) =
    sum_but_one (λ k. bit (has_to_copy s k)) (λ k. bit (has_to_copy t k)) (suc f) (length s) inside (λ k l ne. bit_at (has_to_copy s k) (has_to_copy t k) (others k l ne)) in
    let c : copies_left t ≡ count_below (has_to_copy t) (length s) = ap (count_below (has_to_copy t)) n in
    omega arith
  where
    -- two places to the right of a mover nothing changes
    unmoved : (r : Ring) (m j : ℕ) → suc m < j → is_privileged (moved r m).values j ≡ is_privileged r.values j
    unmoved r m zero l = absurd (omega arith)
    unmoved r m (suc j) l =
        ap (λ (x : ℕ). not (eqb x (get_or (moved r m).values (suc j) 0))) (at_other r m j (omega arith))
        ∙ ap (λ (x : ℕ). not (eqb (get_or r.values j 0) x)) (at_other r m (suc j) (omega arith))

-- never more than n - 2
copies_bounded : (s : List ℕ) → 2 ≤ length s → copies_left s + 2 ≤ length s
copies_bounded s two = few (has_to_copy s) (length s) two
    (and_off (not (eqb (get_or s 0 0) (get_or s 0 0))) (has_privileged_after s 0)
    (not_from_true (eqb (get_or s 0 0) (get_or s 0 0)) (eq-eqb (get_or s 0 0) (get_or s 0 0) refl)))
    (λ k at. off_and (not (eqb (get_or s k 0) (get_or s 0 0))) (has_privileged_after s k) (after_none s k (λ j l lj. absurd (omega arith))))
  where
    but_first : (p : ℕ → Bool) (m : ℕ) → p 0 ≡ false → count_below p (suc m) ≤ m
    but_first p zero off = let z : bit (p 0) ≡ 0 = bit_at (p 0) false off in omega arith
    but_first p (suc m) off = let ih = but_first p m off in let one = bit_le (p (suc m)) in omega arith

    few : (p : ℕ → Bool) (n : ℕ) → 2 ≤ n → p 0 ≡ false → ((k : ℕ) → suc k ≡ n → p k ≡ false) → count_below p n + 2 ≤ n
    few p zero l off last = absurd (omega arith)
    few p (suc zero) l off last = absurd (omega arith)
    few p (suc (suc m)) l off last =
        let z : bit (p (suc m)) ≡ 0 = bit_at (p (suc m)) false (last (suc m) refl) in
        let c = but_first p m off in
        omega arith

-- what is left, by cases

pub left_settled : (r : Ring) → is_settled r.values ≡ true → passes_left r ≡ 0
left_settled r u = cond-true (is_settled r.values) 0 (cond (is_privileged r.values 0) (1 + copies_left (moved r 0).values) (copies_left r.values)) u

left_unsettled : (r : Ring) → is_settled r.values ≡ false →
    passes_left r ≡ cond (is_privileged r.values 0) (1 + copies_left (moved r 0).values) (copies_left r.values)
left_unsettled r u = cond-false (is_settled r.values) 0 (cond (is_privileged r.values 0) (1 + copies_left (moved r 0).values) (copies_left r.values)) u

left_copies : (r : Ring) → 1 ≤ length r.values → is_privileged r.values 0 ≡ false → passes_left r ≡ copies_left r.values
left_copies r one off = elim (cases_Bool (is_settled r.values)) [
  | inl u ↦ left_settled r u ∙ sym (settled_no_copies r.values one off u)
  | inr u ↦ left_unsettled r u ∙ cond-false (is_privileged r.values 0) (1 + copies_left (moved r 0).values) (copies_left r.values) off
]

left_step : (r : Ring) → is_settled r.values ≡ false → is_privileged r.values 0 ≡ true → passes_left r ≡ 1 + copies_left (moved r 0).values
left_step r u on = left_unsettled r u ∙ cond-true (is_privileged r.values 0) (1 + copies_left (moved r 0).values) (copies_left r.values) on

-- one pass

pub unsettled_pass : (r : Ring) (i : ℕ) → IsRing r → is_settled r.values ≡ false → i ≡ first_privileged r.values → passes_left r ≡ passes_left (moved r i) + 1
unsettled_pass r zero g u at =
    let two = g.two in
    let f = first_is r.values (omega arith) in
    let on : is_privileged r.values 0 ≡ true = ap (is_privileged r.values) at ∙ f.1 in
    let n : length (moved r 0).values ≡ length r.values = length_move r 0 in
    let a : passes_left r ≡ 1 + copies_left (moved r 0).values = left_step r u on in
    let b : passes_left (moved r 0) ≡ copies_left (moved r 0).values = left_copies (moved r 0) (omega arith) (mover_loses r 0 g (omega arith) on) in
    omega arith
unsettled_pass r (suc i) g u at =
    let two = g.two in
    let t : Ring = moved r (suc i) in
    let off : is_privileged r.values 0 ≡ false = first_fails r.values 0 (omega arith) in
    let f = first_is r.values (omega arith) in
    let inside : suc i < length r.values = let l : first_privileged r.values < length r.values = f.0 in omega arith in
    let n : length t.values ≡ length r.values = length_move r (suc i) in
    let a : passes_left r ≡ copies_left r.values = left_copies r (omega arith) off in
    let c : copies_left r.values ≡ copies_left t.values + 1 = copy_counts r i g u (sym at) in
    let after : has_privileged_after r.values (suc i) ≡ true = ap (has_privileged_after r.values) at ∙ unsettled_after r.values (omega arith) u in
    let not_last : suc i + 1 ≢ length r.values = λ q. both_ways (has_privileged_after r.values (suc i)) (after_none r.values (suc i) (λ j lj l'. absurd (omega arith))) after in
    let other : 0 ≢ right_neighbour r.values (suc i) = elim (next_is r.values (suc i) inside) [ inl w ↦ omega arith | inr w ↦ absurd (not_last w.0) ] in
    let still : is_privileged t.values 0 ≡ false = others_same r (suc i) 0 g inside (omega arith) (omega arith) other ∙ off in
    let b : passes_left t ≡ copies_left t.values = left_copies t (omega arith) still in
    omega arith

pub first_pass : (r : Ring) (i : ℕ) → IsRing r → i ≡ first_privileged r.values → passes_left (moved r i) ≡ passes_left r - 1
first_pass r i g at =
    let two = g.two in
    let f = first_is r.values (omega arith) in
    let l : i < length r.values = let l : first_privileged r.values < length r.values = f.0 in omega arith in
    let on : is_privileged r.values i ≡ true = ap (is_privileged r.values) at ∙ f.1 in
    elim (cases_Bool (is_settled r.values)) [
      | inl u ↦
          let a : passes_left r ≡ 0 = left_settled r u in
          let b : passes_left (moved r i) ≡ 0 = left_settled (moved r i) (settled_stays r i g l on u) in
          omega arith
      | inr u ↦ let a = unsettled_pass r i g u at in omega arith
    ]

-- the laws

pub first_passes_count : FirstPassesCount
first_passes_count r [] g b = (refl, omega arith)
first_passes_count r (i ∷ is) g b =
    let two = g.two in
    let at : i ≡ first_privileged r.values = b.0 in
    let f = first_is r.values (omega arith) in
    let l : i < length r.values = let l : first_privileged r.values < length r.values = f.0 in omega arith in
    let on : is_privileged r.values i ≡ true = ap (is_privileged r.values) at ∙ f.1 in
    let p : passed r i ≡ moved r i = pass_granted r i on in
    let more = first_passes_count (moved r i) is (move_ring r i g l) (subst (λ (t : Ring). AreFirst t is) p b.1) in
    let one : passes_left (moved r i) ≡ passes_left r - 1 = first_pass r i g at in
    let state : passes_left (after_passes r (i ∷ is)) ≡ passes_left (after_passes (moved r i) is) = ap (λ (t : Ring). passes_left (after_passes t is)) p in
    let count : passes_left (after_passes (moved r i) is) ≡ passes_left (moved r i) - length is = more.1 in
    (granted_on r i is on ∙ ap (λ (x : List ℕ). i ∷ x) more.0, omega arith)

-- some pass is left in a ring that is not settled
pub left_some : (r : Ring) → IsRing r → is_settled r.values ≡ false → 1 ≤ passes_left r
left_some r g u = let a = unsettled_pass r (first_privileged r.values) g u refl in omega arith

zero_settled : (r : Ring) → IsRing r → passes_left r ≡ 0 → is_settled r.values ≡ true
zero_settled r g z = elim (cases_Bool (is_settled r.values)) [
  | inl u ↦ u
  | inr u ↦ let a = left_some r g u in absurd (omega arith)
]

pub left_bounded : (r : Ring) → 2 ≤ length r.values → passes_left r + 1 ≤ length r.values
left_bounded r two = elim (cases_Bool (is_settled r.values)) [
  | inl u ↦ let a = left_settled r u in omega arith
  | inr u ↦ elim (cases_Bool (is_privileged r.values 0)) [
    | inl on ↦
        let n : length (moved r 0).values ≡ length r.values = length_move r 0 in
        let a = left_step r u on in
        let b = copies_bounded (moved r 0).values (omega arith) in
        omega arith
    | inr off ↦
        let a = left_copies r (omega arith) off in
        let b = copies_bounded r.values two in
        omega arith
  ]
]

pub passes_left_means : PassesLeftMeans
passes_left_means r g = ((λ z. zero_settled r g z), (λ u. left_settled r u), (let few = left_bounded r g.two in omega arith))

after_ring : (r : Ring) (choices : List ℕ) → IsRing r → AreFirst r choices → IsRing (after_passes r choices)
after_ring r [] g b = g
after_ring r (i ∷ is) g b =
    let two = g.two in
    let f = first_is r.values (omega arith) in
    let at : i ≡ first_privileged r.values = b.0 in
    let l : i < length r.values = let l : first_privileged r.values < length r.values = f.0 in omega arith in
    after_ring (passed r i) is (pass_ring r i g l) b.1

pub first_passes_settle : FirstPassesSettle
first_passes_settle r choices g b many =
    let t : Ring = after_passes r choices in
    let count : passes_left t ≡ passes_left r - length choices = (first_passes_count r choices g b).1 in
    let top = left_bounded r g.two in
    zero_settled t (after_ring r choices g b) (omega arith)

-- the ring (0,2,..,2,0), in which machine 0 passes and then each other but the last

abbrev slow_values : ℕ → List ℕ
slow_values m = 0 ∷ (replicate m 2 ++ (0 ∷ []))

slow_length : (m : ℕ) → length (slow_values m) ≡ m + 2
slow_length m =
    let a : length {A = ℕ} (replicate m 2 ++ (0 ∷ [])) ≡ length (replicate {A = ℕ} m 2) + 1 = length-append (replicate m 2) (0 ∷ []) in
    let b : length (replicate {A = ℕ} m 2) ≡ m = length-replicate m 2 in
    let c : length (slow_values m) ≡ suc (length {A = ℕ} (replicate m 2 ++ (0 ∷ []))) = refl in
    omega arith

slow_middle : (m i : ℕ) → i < m → get_or (slow_values m) (suc i) 0 ≡ 2
slow_middle m i l =
    let b : length (replicate {A = ℕ} m 2) ≡ m = length-replicate m 2 in
    get_or-append (replicate m 2) (0 ∷ []) 0 i (omega arith) ∙ get_or-replicate m i 2 0 l

slow_last : (m : ℕ) → get_or (slow_values m) (suc m) 0 ≡ 0
slow_last m = last m 2
  where
    last : (j v : ℕ) → get_or (replicate j v ++ (0 ∷ [])) j 0 ≡ 0
    last zero v = refl
    last (suc j) v = last j v

-- all of the numbers from 1 to m pass, of those below m + 2
count_middle : (p : ℕ → Bool) (m : ℕ) → p 0 ≡ false → ((i : ℕ) → i < m → p (suc i) ≡ true) → p (suc m) ≡ false → count_below p (suc (suc m)) ≡ m
count_middle p m off on last =
    let z : bit (p (suc m)) ≡ 0 = bit_at (p (suc m)) false last in
    let c = up m on in
    omega arith
  where
    up : (j : ℕ) → ((i : ℕ) → i < j → p (suc i) ≡ true) → count_below p (suc j) ≡ j
    up zero h = let z : bit (p 0) ≡ 0 = bit_at (p 0) false off in omega arith
    up (suc j) h =
        let ih = up j (λ i l. h i (omega arith)) in
        let one : bit (p (suc j)) ≡ 1 = bit_at (p (suc j)) true (h j (omega arith)) in
        omega arith

slow_ring : (m k : ℕ) → 1 ≤ m → m + 2 ≤ k → IsRing (ring_with k (slow_values m))
slow_ring m k one fits =
    let n = slow_length m in
    record {
      two = omega arith;
      enough = omega arith;
      below = λ i l. small i (omega arith);
    }
  where
    small : (i : ℕ) → i < m + 2 → get_or (slow_values m) i 0 < k
    small zero l = omega arith
    small (suc i) l = elim (cases_lt i m) [
      | inl before ↦ let v = slow_middle m i before in omega arith
      | inr past ↦
          let at : suc i ≡ suc m = omega arith in
          let v : get_or (slow_values m) (suc i) 0 ≡ get_or (slow_values m) (suc m) 0 = ap (λ x. get_or (slow_values m) x 0) at in
          let z = slow_last m in
          omega arith
    ]

slow_left : (m k : ℕ) → 1 ≤ m → m + 2 ≤ k → passes_left (ring_with k (slow_values m)) ≡ m + 1
slow_left m k one fits =
    let r : Ring = ring_with k (slow_values m) in
    let g : IsRing r = slow_ring m k one fits in
    let s : List ℕ = r.values in
    let t : List ℕ = (moved r 0).values in
    let n : length s ≡ m + 2 = slow_length m in
    let nt : length t ≡ length s = length_move r 0 in
    let last : get_or s (length s - 1) 0 ≡ 0 = (let q : length s - 1 ≡ suc m = omega arith in ap (λ x. get_or s x 0) q ∙ slow_last m) in
    let on : is_privileged s 0 ≡ true = eq-eqb (get_or s (length s - 1) 0) (get_or s 0 0) last in
    let second : get_or s 1 0 ≡ 2 = slow_middle m 0 (omega arith) in
    let on' : is_privileged s 1 ≡ true = not_from_false (eqb (get_or s 0 0) (get_or s 1 0)) (ne_eqb (get_or s 0 0) (get_or s 1 0) (let z : get_or s 0 0 ≡ 0 = refl in omega arith)) in
    let u : is_settled s ≡ false = false_from_ne_true (is_settled s) (λ e. let q : 0 ≡ 1 = only_one s 0 1 e (omega arith) (omega arith) on on' in absurd (omega arith)) in
    let first : get_or t 0 0 ≡ 1 = at_mover r 0 (omega arith) ∙ mod-eq_of_lt (omega arith) in
    let other : (i : ℕ) → get_or t (suc i) 0 ≡ get_or s (suc i) 0 = λ i. at_other r 0 (suc i) (omega arith) in
    let off : has_to_copy t 0 ≡ false = and_off (not (eqb (get_or t 0 0) (get_or t 0 0))) (has_privileged_after t 0)
    (not_from_true (eqb (get_or t 0 0) (get_or t 0 0)) (eq-eqb (get_or t 0 0) (get_or t 0 0) refl)) in
    let end : has_to_copy t (suc m) ≡ false = off_and (not (eqb (get_or t (suc m) 0) (get_or t 0 0))) (has_privileged_after t (suc m))
    (after_none t (suc m) (λ j lj l'. absurd (omega arith))) in
    let change : is_privileged t (suc m) ≡ true = not_from_false (eqb (get_or t m 0) (get_or t (suc m) 0)) (ne_eqb (get_or t m 0) (get_or t (suc m) 0)
    (λ q.
    let v : get_or t m 0 ≡ 2 = (let at : m ≡ suc (m - 1) = omega arith in ap (λ x. get_or t x 0) at ∙ (other (m - 1) ∙ slow_middle m (m - 1) (omega arith))) in
    let w : get_or t (suc m) 0 ≡ 0 = other m ∙ slow_last m in
    omega arith)) in
    let copies : (i : ℕ) → i < m → has_to_copy t (suc i) ≡ true = λ i l.
    and_from (not (eqb (get_or t (suc i) 0) (get_or t 0 0))) (has_privileged_after t (suc i))
    (not_from_false (eqb (get_or t (suc i) 0) (get_or t 0 0)) (ne_eqb (get_or t (suc i) 0) (get_or t 0 0) (let v : get_or t (suc i) 0 ≡ 2 = other i ∙ slow_middle m i l in omega arith)))
    (after_some t (suc i) (suc m) (omega arith) (omega arith) change) in
    let size : copies_left t ≡ count_below (has_to_copy t) (suc (suc m)) = (let q : length t ≡ suc (suc m) = omega arith in ap (count_below (has_to_copy t)) q) in
    let count : count_below (has_to_copy t) (suc (suc m)) ≡ m = count_middle (has_to_copy t) m off copies end in
    let step : passes_left r ≡ 1 + copies_left t = left_step r u on in
    omega arith

pub first_passes_are_sharp : FirstPassesAreSharp
first_passes_are_sharp n k three enough =
    let m : ℕ = n - 2 in
    let left' = slow_left m k (omega arith) (omega arith) in
    let size = slow_length m in
    (ring_with k (slow_values m), slow_ring m k (omega arith) (omega arith), refl, omega arith, omega arith)
