-- No repair has more than (n - 2)(3n + 1)/2 granted passes: beyond 1 for each pass, weight + n * lead loses n - 1 when the lead
-- falls from n - 1, and 2 at the end.
use Rattle.std.proofs.Common.{◌≡◌, ℕ, zero, suc, ◌+◌, ◌-◌, ◌*◌, ◌%◌, ◌<◌, ◌≤◌, ◌≢◌, ◌==◌, Bool, true, false, not, cond, List, [], ◌∷◌, ◌++◌, length, get_or, take, drop, refl, sym, ◌∙◌, ap, subst, inl, inr, arith, eqb}
use Rattle.std.proofs.lemmas.Bool.{cases_eq, cases_lt, cases_Bool, cond-true, cond-false, eq-eqb, ne_eqb, eqb-true, eqb-false, not-true, not-false, not_from_true, not_from_false, and_cases, both_ways, false_from_ne_true, true_from_ne_false}
use Rattle.std.proofs.lemmas.List.{take-append-drop}
use Rattle.std.proofs.lemmas.Nat.{le-div}
use Rattle.std.proofs.Math.Nat.{mul-le-mul_left, mod-eq_of_lt}
use Rattle.ring_model.specs.Numbers.{every_below, count_below, sum_below, least}
use Rattle.ring_model.specs.Ring.{Ring, IsRing, is_privileged, moved, right_neighbour, first_privileged, is_settled, weight_at, weight, is_absent, first_value_is_prefix, lead}
use Rattle.ring_model.specs.Runs.{passed, after_passes, granted_passes, AreBelow}
use Rattle.ring_model.specs.RepairLaws.{longest_repair, LongRunSettles, LongCalmSettles}
use Rattle.ring_model.specs.History.{State, after, IsLegal}
use Rattle.ring_model.specs.declared.events.Event.{Event}
use Rattle.ring_model.specs.Surveys.{granted_count, calm}
use Rattle.ring_model.specs.Grants.{asked_machines, granted_machines}
use Rattle.ring_model.proofs.Below.{sum_two_le, every_at, every_fails, count_is, wrap}
use Rattle.ring_model.proofs.Moves.{length_move, next_is, last_is_first}
use Rattle.ring_model.proofs.Weight.{weights, weight_copy, pull_le, pull_true}
use Rattle.ring_model.proofs.Lead.{hits_le, step_not_front, lead_copy, lead_step}
use Rattle.ring_model.proofs.Descent.{potential_falls}
use Rattle.ring_model.proofs.Bound.{pulls_le, lead_le}
use Rattle.ring_model.proofs.Settled.{first_is, settled_stays}
use Rattle.ring_model.proofs.Meaning.{lead_means}
use Rattle.ring_model.proofs.Runs.{pass_granted, pass_idle, pass_ring, below_pass}
use Rattle.ring_model.proofs.FirstPasses.{unsettled_after}
use Rattle.ring_model.proofs.Rounds.{ring_after}
use Rattle.ring_model.proofs.Suffixes.{calm_means}
use Rattle.ring_model.proofs.Histories.{after-append, IsLegal-back}
use Rattle.ring_model.proofs.QuietRuns.{quiet_run}
use Rattle.ring_model.proofs.Places.{front_legal, kept_after}

-- weight + n * lead, also of a settled ring
abbrev potential : Ring → ℕ
potential r = weight r.values + length r.values * lead r

-- what it is known to lose beyond 1 for each pass, until the ring is settled
abbrev loss : Ring → ℕ
loss r = cond (lead r + 1 == length r.values) (length r.values + 1) 2

loss_top : (r : Ring) → lead r + 1 ≡ length r.values → loss r ≡ length r.values + 1
loss_top r e = cond-true (lead r + 1 == length r.values) (length r.values + 1) 2 (eq-eqb (lead r + 1) (length r.values) e)

loss_less : (r : Ring) → lead r + 1 ≢ length r.values → loss r ≡ 2
loss_less r ne = cond-false (lead r + 1 == length r.values) (length r.values + 1) 2 (ne_eqb (lead r + 1) (length r.values) ne)

-- a ring that is not settled has a second privileged machine to the right of the first one
record HasTwo (s : List ℕ) : Type 0 where
  other : ℕ
  after : first_privileged s < other
  below : other < length s
  on : is_privileged s other ≡ true

two_privileged : (s : List ℕ) → 1 ≤ length s → is_settled s ≡ false → HasTwo s
two_privileged s one u =
    let f : ℕ = first_privileged s in
    let p : ℕ → Bool = λ d. not (is_privileged s (f + 1 + d)) in
    let some : every_below p (length s - 1 - f) ≡ false = not-true (every_below p (length s - 1 - f)) (unsettled_after s one u) in
    let w = every_fails p (length s - 1 - f) some in
    let lw : w.0 < length s - 1 - f = w.1 in
    record { other = f + 1 + w.0; after = omega arith; below = omega arith; on = not-false (is_privileged s (f + 1 + w.0)) w.2 }

-- and at least three machines
unsettled_three : (r : Ring) → IsRing r → is_settled r.values ≡ false → 3 ≤ length r.values
unsettled_three r g u =
    let two = g.two in
    let pair = two_privileged r.values (omega arith) u in
    let f = first_is r.values (omega arith) in
    let after' = pair.after in
    let below' = pair.below in
    elim (cases_lt 2 (length r.values)) [
      | inl more ↦ more
      | inr few ↦
          let zero' : first_privileged r.values ≡ 0 = omega arith in
          let one' : pair.other ≡ 1 = omega arith in
          let last : length r.values - 1 ≡ 1 = omega arith in
          let a : get_or r.values (length r.values - 1) 0 ≡ get_or r.values 0 0 = last_is_first r.values (sym (ap (is_privileged r.values) zero') ∙ f.1) in
          let same : get_or r.values 0 0 ≡ get_or r.values 1 0 = sym a ∙ ap (λ x. get_or r.values x 0) last in
          let on : is_privileged r.values 1 ≡ true = sym (ap (is_privileged r.values) one') ∙ pair.on in
          absurd (both_ways (is_privileged r.values 1) (not_from_true (eqb (get_or r.values 0 0) (get_or r.values 1 0)) (eq-eqb (get_or r.values 0 0) (get_or r.values 1 0) same)) on)
    ]

weight_on : (s : List ℕ) (i : ℕ) → 1 ≤ i → is_privileged s i ≡ true → weight_at s i ≡ length s - i
weight_on s zero one y = absurd (omega arith)
weight_on s (suc i) one y = pull_true s i y

-- the potential is not yet at its last value in a ring that is not settled
loss_left : (r : Ring) → IsRing r → is_settled r.values ≡ false → loss r + 1 ≤ potential r
loss_left r g u =
    let three = unsettled_three r g u in
    elim (cases_eq (lead r + 1) (length r.values)) [
      | inl top ↦
          let a = loss_top r top in
          let j : 2 ≤ lead r = omega arith in
          let m : length r.values * 2 ≤ length r.values * lead r = mul-le-mul_left (length r.values) j in
          omega arith
      | inr less ↦
          let a = loss_less r less in
          elim (cases_eq (lead r) 0) [
            | inl none ↦
                let front : first_value_is_prefix r.values ≡ true = true_from_ne_false (first_value_is_prefix r.values) (λ f. let low = (lead_means r g f).0 in absurd (omega arith)) in
                let off : is_privileged r.values 0 ≡ false = false_from_ne_true (is_privileged r.values 0) (λ y. both_ways (first_value_is_prefix r.values) (step_not_front r.values (omega arith) y u) front) in
                let f = first_is r.values (omega arith) in
                let pair = two_privileged r.values (omega arith) u in
                let after' = pair.after in
                let below' = pair.below in
                let some : first_privileged r.values ≢ 0 = λ q. both_ways (is_privileged r.values 0) off (sym (ap (is_privileged r.values) q) ∙ f.1) in
                let w = weight_on r.values (first_privileged r.values) (omega arith) f.1 in
                let v = weight_on r.values pair.other (omega arith) pair.on in
                let sum : weight_at r.values (first_privileged r.values) + weight_at r.values pair.other ≤ weight r.values =
                sum_two_le (weight_at r.values) (first_privileged r.values) pair.other (length r.values) f.0 pair.below (omega arith) in
                omega arith
            | inr some ↦
                let j : 1 ≤ lead r = omega arith in
                let m : length r.values * 1 ≤ length r.values * lead r = mul-le-mul_left (length r.values) j in
                omega arith
          ]
    ]

-- with the greatest lead, the n - 1 values from machine 0's on are all there, so machine 0 is privileged only where machine 1 is
top_step : (r : Ring) → IsRing r → 3 ≤ length r.values → lead r + 1 ≡ length r.values → is_privileged r.values 0 ≡ true → is_privileged r.values 1 ≡ true
top_step r g three top y = true_from_ne_false (is_privileged r.values 1) (λ off.
    let s : List ℕ = r.values in
    let v : ℕ = get_or s 0 0 in
    let m : ℕ = length s - 2 in
    let enough = g.enough in
    let small : v < r.k = g.below 0 (omega arith) in
    let first : get_or s 0 0 ≡ get_or s 1 0 = eqb-true (get_or s 0 0) (get_or s 1 0) (not-false (eqb (get_or s 0 0) (get_or s 1 0)) off) in
    let end : length s - 1 ≡ suc m = omega arith in
    let last : get_or s (suc m) 0 ≡ v = sym (ap (λ x. get_or s x 0) end) ∙ last_is_first s y in
    let off_front : first_value_is_prefix s ≡ false = false_from_ne_true (first_value_is_prefix s) (λ f.
    let z : lead r ≡ 0 = lead_front r f in
    absurd (omega arith)) in
    let means = lead_means r g off_front in
    let held : (j : ℕ) → j < suc m → not (every_below (λ i. not (eqb (get_or s (suc i) 0) ((v + j) % r.k))) m) ≡ true = λ j lj.
    not_from_false (every_below (λ i. not (eqb (get_or s (suc i) 0) ((v + j) % r.k))) m) (elim (cases_eq j 0) [
      | inl z ↦
          let at : (v + j) % r.k ≡ v = mod-eq_of_lt {n = v + j} {m = r.k} (omega arith) ∙ (omega arith) in
          false_from_ne_true (every_below (λ i. not (eqb (get_or s (suc i) 0) ((v + j) % r.k))) m) (λ all.
          let n1 : not (eqb (get_or s 1 0) ((v + j) % r.k)) ≡ true = every_at (λ i. not (eqb (get_or s (suc i) 0) ((v + j) % r.k))) m 0 all (omega arith) in
          eqb-false (get_or s 1 0) ((v + j) % r.k) (not-true (eqb (get_or s 1 0) ((v + j) % r.k)) n1) (sym first ∙ sym at))
      | inr some ↦
          let there : is_absent s ((v + j) % r.k) ≡ false = means.3 j (omega arith) (omega arith) in
          let there' : every_below (λ i. not (eqb (get_or s (suc i) 0) ((v + j) % r.k))) (suc m) ≡ false =
          ap (every_below (λ i. not (eqb (get_or s (suc i) 0) ((v + j) % r.k)))) (sym end) ∙ there in
          elim (and_cases (not (eqb (get_or s (suc m) 0) ((v + j) % r.k))) (every_below (λ i. not (eqb (get_or s (suc i) 0) ((v + j) % r.k))) m) there') [
            | inl here ↦
                let q : get_or s (suc m) 0 ≡ (v + j) % r.k = eqb-true (get_or s (suc m) 0) ((v + j) % r.k) (not-false (eqb (get_or s (suc m) 0) ((v + j) % r.k)) here) in
                elim (wrap r.k v j small (omega arith)) [ inl w ↦ absurd (omega arith) | inr w ↦ absurd (omega arith) ]
            | inr before ↦ before
          ]
    ]) in
    let all : count_below (λ j. not (every_below (λ i. not (eqb (get_or s (suc i) 0) ((v + j) % r.k))) m)) (suc m) ≡ suc m =
    count_is (λ j. not (every_below (λ i. not (eqb (get_or s (suc i) 0) ((v + j) % r.k))) m)) (suc m) held in
    let few : count_below (λ j. not (every_below (λ i. not (eqb (get_or s (suc i) 0) ((v + j) % r.k))) m)) (suc m) ≤ m =
    hits_le r.k v s (suc m) m small (omega arith) in
    absurd (omega arith))
  where
    lead_front : (r : Ring) → first_value_is_prefix r.values ≡ true → lead r ≡ 0
    lead_front r f = cond-true (first_value_is_prefix r.values) 0 (least (λ j. is_absent r.values ((get_or r.values 0 0 + j) % r.k)) 1 r.k) f

-- so the weight does not rise in that step
top_weight : (r : Ring) → IsRing r → 3 ≤ length r.values → lead r + 1 ≡ length r.values → is_privileged r.values 0 ≡ true → weight (moved r 0).values ≤ weight r.values
top_weight r g three top y =
    let t : Ring = moved r 0 in
    let n : length t.values ≡ length r.values = length_move r 0 in
    let one : right_neighbour r.values 0 ≡ 1 = elim (next_is r.values 0 (omega arith)) [ inl w ↦ omega arith | inr w ↦ omega arith ] in
    let sums : weight r.values + (0 + weight_at t.values (right_neighbour r.values 0)) ≡ weight t.values + (0 + weight_at r.values (right_neighbour r.values 0)) = weights r 0 g (omega arith) in
    let before : weight_at r.values 1 ≡ length r.values - 1 = weight_on r.values 1 (omega arith) (top_step r g three top y) in
    let here : weight_at r.values (right_neighbour r.values 0) ≡ weight_at r.values 1 = ap (weight_at r.values) one in
    let there : weight_at t.values (right_neighbour r.values 0) ≤ length t.values - right_neighbour r.values 0 = pull_le t.values (right_neighbour r.values 0) in
    omega arith

-- a pass that takes the greatest lead loses n - 1 beyond 1
top_falls : (r : Ring) (i : ℕ) → IsRing r → i < length r.values → is_privileged r.values i ≡ true → is_settled r.values ≡ false → lead r + 1 ≡ length r.values →
    lead (moved r i) + 1 ≢ length r.values → potential (moved r i) + length r.values ≤ potential r
top_falls r zero g l y u top less =
    let n : length (moved r 0).values ≡ length r.values = length_move r 0 in
    let w : weight (moved r 0).values ≤ weight r.values = top_weight r g (unsettled_three r g u) top y in
    let j : lead (moved r 0) + 1 ≤ lead r = lead_step r g y u in
    let m : length r.values * (lead (moved r 0) + 1) ≤ length r.values * lead r = mul-le-mul_left (length r.values) j in
    let q : length (moved r 0).values * lead (moved r 0) ≡ length r.values * lead (moved r 0) = ap (λ x. x * lead (moved r 0)) n in
    omega arith
top_falls r (suc i) g l y u top less =
    let n : length (moved r (suc i)).values ≡ length r.values = length_move r (suc i) in
    let w : weight (moved r (suc i)).values + 1 ≤ weight r.values = weight_copy r i g l y in
    let j : lead (moved r (suc i)) ≤ lead r = lead_copy r i l in
    let j' : lead (moved r (suc i)) + 1 ≤ lead r = omega arith in
    let m : length r.values * (lead (moved r (suc i)) + 1) ≤ length r.values * lead r = mul-le-mul_left (length r.values) j' in
    let q : length (moved r (suc i)).values * lead (moved r (suc i)) ≡ length r.values * lead (moved r (suc i)) = ap (λ x. x * lead (moved r (suc i))) n in
    omega arith

-- each pass in a ring that is not settled lowers the potential less the loss by 1
less_falls : (r : Ring) (i : ℕ) → IsRing r → i < length r.values → is_privileged r.values i ≡ true → is_settled r.values ≡ false →
    potential (moved r i) + 1 + loss r ≤ potential r + loss (moved r i)
less_falls r i g l y u =
    let t : Ring = moved r i in
    let n : length t.values ≡ length r.values = length_move r i in
    let q : length t.values * lead t ≡ length r.values * lead t = ap (λ x. x * lead t) n in
    let p : weight t.values + length r.values * lead t + 1 ≤ weight r.values + length r.values * lead r = potential_falls r i g l y u in
    elim (cases_eq (lead r + 1) (length r.values)) [
      | inl top ↦
          let a = loss_top r top in
          elim (cases_eq (lead t + 1) (length r.values)) [
            | inl top' ↦ let b = loss_top t (top' ∙ sym n) in omega arith
            | inr less ↦
                let b = loss_less t (λ e. less (e ∙ n)) in
                let f : potential t + length r.values ≤ potential r = top_falls r i g l y u top less in
                omega arith
          ]
      | inr less ↦
          let a = loss_less r less in
          let b : 2 ≤ loss t = elim (cases_eq (lead t + 1) (length t.values)) [
            | inl top' ↦ let c = loss_top t top' in omega arith
            | inr less' ↦ let c = loss_less t less' in omega arith
          ] in
          omega arith
    ]

-- how many passes are left at most
abbrev most_left : Ring → ℕ
most_left r = cond (is_settled r.values) 0 (potential r - loss r)

most_settled : (r : Ring) → is_settled r.values ≡ true → most_left r ≡ 0
most_settled r u = cond-true (is_settled r.values) 0 (potential r - loss r) u

most_unsettled : (r : Ring) → is_settled r.values ≡ false → most_left r ≡ potential r - loss r
most_unsettled r u = cond-false (is_settled r.values) 0 (potential r - loss r) u

most_falls : (r : Ring) (i : ℕ) → IsRing r → i < length r.values → is_privileged r.values i ≡ true → most_left (moved r i) ≤ most_left r - 1
most_falls r i g l y = elim (cases_Bool (is_settled (moved r i).values)) [
  | inl after' ↦ let z = most_settled (moved r i) after' in omega arith
  | inr after' ↦
      let u : is_settled r.values ≡ false = false_from_ne_true (is_settled r.values) (λ e. both_ways (is_settled (moved r i).values) after' (settled_stays r i g l y e)) in
      let a = most_unsettled r u in
      let b = most_unsettled (moved r i) after' in
      let f = less_falls r i g l y u in
      omega arith
]

most_run : (r : Ring) (choices : List ℕ) → IsRing r → AreBelow (length r.values) choices → most_left (after_passes r choices) ≤ most_left r - length (granted_passes r choices)
most_run r [] g b = omega arith
most_run r (i ∷ is) g b =
    let ih : most_left (after_passes (passed r i) is) ≤ most_left (passed r i) - length (granted_passes (passed r i) is) =
    most_run (passed r i) is (pass_ring r i g b.0) (below_pass r i is b.1) in
    elim (cases_Bool (is_privileged r.values i)) [
      | inl y ↦
          let gs : length (granted_passes r (i ∷ is)) ≡ suc (length (granted_passes (passed r i) is)) =
          ap (λ (x : List ℕ). length x) (cond-true (is_privileged r.values i) (i ∷ granted_passes (passed r i) is) (granted_passes (passed r i) is) y) in
          let f : most_left (moved r i) ≤ most_left r - 1 = most_falls r i g b.0 y in
          let q : most_left (passed r i) ≡ most_left (moved r i) = ap most_left (pass_granted r i y) in
          omega arith
      | inr off ↦
          let gs : length (granted_passes r (i ∷ is)) ≡ length (granted_passes (passed r i) is) =
          ap (λ (x : List ℕ). length x) (cond-false (is_privileged r.values i) (i ∷ granted_passes (passed r i) is) (granted_passes (passed r i) is) off) in
          let q : most_left (passed r i) ≡ most_left r = ap most_left (pass_idle r i off) in
          omega arith
    ]

-- with m + 2 machines, of weight z and lead j
top_bound : (m z j : ℕ) → 2 * z ≤ (m + 2) * (m + 1) → j ≤ m + 1 → 2 * (z + (m + 2) * j) ≤ m * (3 * (m + 2) + 1) + 2 * (m + 3)
top_bound m z j w l =
    let p : (m + 2) * j ≤ (m + 2) * (m + 1) = mul-le-mul_left (m + 2) l in
    omega arith

less_bound : (m z j : ℕ) → 2 * z ≤ (m + 2) * (m + 1) → j ≤ m → 2 * (z + (m + 2) * j) ≤ m * (3 * (m + 2) + 1) + 2 * 2
less_bound m z j w l =
    let p : (m + 2) * j ≤ (m + 2) * m = mul-le-mul_left (m + 2) l in
    omega arith

weight_half : (m : ℕ) (s : List ℕ) → length s ≡ m + 2 → 2 * weight s ≤ (m + 2) * (m + 1)
weight_half m s n =
    let e : suc (suc m) ≡ length s = omega arith in
    let w : 2 * sum_below (weight_at s) (suc (suc m)) + suc (suc m) * suc m ≤ 2 * length s * suc m = pulls_le s (suc m) (omega arith) in
    let w' : sum_below (weight_at s) (suc (suc m)) ≡ weight s = ap (sum_below (weight_at s)) e in
    let q : 2 * length s * suc m ≡ 2 * (m + 2) * suc m = ap (λ x. 2 * x * suc m) n in
    omega arith

most_bounded : (r : Ring) → IsRing r → most_left r ≤ longest_repair (length r.values)
most_bounded r g = elim (cases_Bool (is_settled r.values)) [
  | inl u ↦ let z = most_settled r u in omega arith
  | inr u ↦
      let two = g.two in
      let m : ℕ = length r.values - 2 in
      let n : length r.values ≡ m + 2 = omega arith in
      let w : 2 * weight r.values ≤ (m + 2) * (m + 1) = weight_half m r.values n in
      let j = lead_le r g in
      let q : length r.values * lead r ≡ (m + 2) * lead r = ap (λ x. x * lead r) n in
      let e : m * (3 * (m + 2) + 1) ≡ m * (3 * length r.values + 1) = ap (λ x. m * (3 * x + 1)) (sym n) in
      let a = most_unsettled r u in
      let twice : 2 * (potential r - loss r) ≤ m * (3 * length r.values + 1) = elim (cases_eq (lead r + 1) (length r.values)) [
        | inl top ↦
            let b = loss_top r top in
            let c = top_bound m (weight r.values) (lead r) w (omega arith) in
            omega arith
        | inr less ↦
            let b = loss_less r less in
            let c = less_bound m (weight r.values) (lead r) w (omega arith) in
            omega arith
      ] in
      let half : potential r - loss r ≤ longest_repair (length r.values) = le-div (potential r - loss r) (m * (3 * length r.values + 1)) 2 (omega arith) (omega arith) in
      omega arith
]

most_zero : (r : Ring) → IsRing r → most_left r ≡ 0 → is_settled r.values ≡ true
most_zero r g z = true_from_ne_false (is_settled r.values) (λ u.
    let a = most_unsettled r u in
    let b = loss_left r g u in
    absurd (omega arith))

pub long_run_settles : LongRunSettles
long_run_settles r choices g b many =
    let d = most_run r choices g b in
    let top = most_bounded r g in
    most_zero (after_passes r choices) (ring_after (length r.values) r choices g refl b) (omega arith)

pub long_calm_settles : {C : Type 0} → LongCalmSettles C
long_calm_settles {C = C} w a h g l q lq many =
    let now : List Event = take q h in
    let m = calm_means now in
    let p : ℕ = m.0 in
    let es : List Event = drop p now in
    let l' : IsLegal w a now = front_legal w a h q l in
    let kept = kept_after w a (take p now) g (front_legal w a now p l') in
    let b : State C = after w a (take p now) in
    let whole : take p now ++ es ≡ now = take-append-drop p now in
    let back : IsLegal w b es = IsLegal-back w a (take p now) es (subst (λ (xs : List Event). IsLegal w a xs) (sym whole) l') in
    let run = quiet_run w b es back m.3 in
    let count : calm now ≡ granted_count es = m.2 in
    let count' = run.count in
    let grants : length (granted_machines es) ≡ length (granted_passes b.ring (asked_machines es)) = ap (λ (x : List ℕ). length x) run.grants in
    let size : longest_repair (length b.ring.values) ≡ longest_repair (length a.ring.values) = ap longest_repair kept.size in
    let done : is_settled (after_passes b.ring (asked_machines es)).values ≡ true = long_run_settles b.ring (asked_machines es) kept.ring run.below (omega arith) in
    let state : after w a now ≡ after w b es = sym (ap (after w a) whole) ∙ after-append w a (take p now) es in
    ap (λ (s : State C). is_settled s.ring.values) state ∙ (ap (λ (t : Ring). is_settled t.values) run.state ∙ done)
