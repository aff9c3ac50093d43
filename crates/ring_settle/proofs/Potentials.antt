-- The findings of a loop for the lead, and how large the potential is.
use Rattle.std.proofs.Common.{◌≡◌, not, refl, ℕ, suc, ◌+◌, ◌-◌, ◌%◌, ◌<◌, ◌≤◌, Bool, true, false, List, [], ◌∷◌, length, drop, drop-cons, get_or, sym, ◌∙◌, ap, subst, inl, inr, arith}
use Rattle.std.proofs.lemmas.Bool.{both_ways, cases_Bool, cond-true, cond-false}
use Rattle.std.proofs.lemmas.List.{drop_all}
use Rattle.ring_model.specs.Numbers.{least, bit}
use Rattle.ring_model.specs.Ring.{Ring, IsRing, is_privileged, is_absent, first_value_is_prefix, lead, rest}
use Rattle.ring_model.specs.Runs.{passed, after_passes, granted_passes, AreBelow}
use Rattle.ring_model.proofs.Below.{bit_le, least_le, least_passes, least_from}
use Rattle.ring_model.proofs.Bound.{lead_le}
use Rattle.ring_model.proofs.Runs.{pass_ring, below_pass, run_descent}

-- j is the lead where it leads to an absent value and nothing from 1 below it does
pub lead_at : (r : Ring) (j : ℕ) → first_value_is_prefix r.values ≡ false → 1 ≤ j → is_absent r.values ((get_or r.values 0 0 + j) % r.k) ≡ true → j ≤ r.k →
    ((i : ℕ) → 1 ≤ i → i < j → is_absent r.values ((get_or r.values 0 0 + i) % r.k) ≡ false) → j ≡ lead r
lead_at r j f one e le h =
    let p : ℕ → Bool = λ i. is_absent r.values ((get_or r.values 0 0 + i) % r.k) in
    let a : lead r ≡ least p 1 r.k = cond-false (first_value_is_prefix r.values) 0 (least p 1 r.k) f in
    let top : least p 1 r.k ≤ j = least_le p 1 r.k j one e in
    let low : 1 ≤ least p 1 r.k = least_from p 1 r.k in
    let on : p (least p 1 r.k) ≡ true = least_passes p 1 r.k (omega arith) in
    let ge : least p 1 r.k < j → ⊥ = λ q. both_ways (p (least p 1 r.k)) (h (least p 1 r.k) low q) on in
    omega arith

-- some step below K leads to an absent value
pub lead_found : (r : Ring) → IsRing r → first_value_is_prefix r.values ≡ false →
    ((i : ℕ) → 1 ≤ i → i < r.k → is_absent r.values ((get_or r.values 0 0 + i) % r.k) ≡ false) → ⊥
lead_found r g f h =
    let p : ℕ → Bool = λ i. is_absent r.values ((get_or r.values 0 0 + i) % r.k) in
    let enough = g.enough in
    let a : lead r ≡ least p 1 r.k = cond-false (first_value_is_prefix r.values) 0 (least p 1 r.k) f in
    let small : lead r + 1 ≤ length r.values = lead_le r g in
    let low : 1 ≤ least p 1 r.k = least_from p 1 r.k in
    let on : p (least p 1 r.k) ≡ true = least_passes p 1 r.k (omega arith) in
    both_ways (p (least p 1 r.k)) (h (least p 1 r.k) low (omega arith)) on

pub lead_front : (r : Ring) → first_value_is_prefix r.values ≡ true → 0 ≡ lead r
lead_front r f = sym (cond-true (first_value_is_prefix r.values) 0 (least (λ i. is_absent r.values ((get_or r.values 0 0 + i) % r.k)) 1 r.k) f)

-- a run, one choice further
pub record Followed (r : Ring) (choices : List ℕ) (i : ℕ) (t : Ring) : Type 0 where
  pub ring : IsRing t
  pub below : AreBelow (length t.values) (drop (i + 1) choices)
  pub state : after_passes t (drop (i + 1) choices) ≡ after_passes r (drop i choices)
  pub moves : length (granted_passes r (drop i choices)) ≡ bit (is_privileged r.values (get_or choices i 0)) + length (granted_passes t (drop (i + 1) choices))

granted_more : (r : Ring) (i : ℕ) (choices : List ℕ) →
    length (granted_passes r (i ∷ choices)) ≡ bit (is_privileged r.values i) + length (granted_passes (passed r i) choices)
granted_more r i choices = elim (cases_Bool (is_privileged r.values i)) [
  | inl e ↦
      let g : length (granted_passes r (i ∷ choices)) ≡ suc (length (granted_passes (passed r i) choices)) =
      ap (λ (x : List ℕ). length x) (cond-true (is_privileged r.values i) (i ∷ granted_passes (passed r i) choices) (granted_passes (passed r i) choices) e) in
      let b : bit (is_privileged r.values i) ≡ 1 = ap bit e in
      omega arith
  | inr e ↦
      let g : length (granted_passes r (i ∷ choices)) ≡ length (granted_passes (passed r i) choices) =
      ap (λ (x : List ℕ). length x) (cond-false (is_privileged r.values i) (i ∷ granted_passes (passed r i) choices) (granted_passes (passed r i) choices) e) in
      let b : bit (is_privileged r.values i) ≡ 0 = ap bit e in
      omega arith
]

pub follow_more : (r : Ring) (choices : List ℕ) (i : ℕ) (t : Ring) → i < length choices → IsRing r → AreBelow (length r.values) (drop i choices) →
    t ≡ passed r (get_or choices i 0) → Followed r choices i t
follow_more r choices i t l g b e =
    let one : suc i ≡ i + 1 = omega arith in
    let cut : drop i choices ≡ get_or choices i 0 ∷ drop (i + 1) choices = drop-cons choices i 0 l ∙ ap (λ x. get_or choices i 0 ∷ drop x choices) one in
    let b' : AreBelow (length r.values) (get_or choices i 0 ∷ drop (i + 1) choices) = subst (λ (x : List ℕ). AreBelow (length r.values) x) cut b in
    let P : Ring → Type 0 = λ x. Followed r choices i x in
    subst P (sym e) (record {
      ring = pass_ring r (get_or choices i 0) g b'.0;
      below = below_pass r (get_or choices i 0) (drop (i + 1) choices) b'.1;
      state = sym (ap (after_passes r) cut);
      moves = ap (λ (x : List ℕ). length (granted_passes r x)) cut ∙ granted_more r (get_or choices i 0) (drop (i + 1) choices);
    })

-- the invariant of the loop: the state t has followed the choices before the index
pub record FollowsTo (r : Ring) (choices : List ℕ) (t : Ring) (granted at : ℕ) : Type 0 where
  pub ring : IsRing t
  pub same : t.k ≡ r.k
  pub below : AreBelow (length t.values) (drop at choices)
  pub state : after_passes t (drop at choices) ≡ after_passes r choices
  pub moves : granted + length (granted_passes t (drop at choices)) ≡ length (granted_passes r choices)
  pub few : granted ≤ at

-- one turn more
pub follow_turn : (r : Ring) (choices : List ℕ) (t u : Ring) (granted more at : ℕ) → FollowsTo r choices t granted at →
    Followed t choices at u → u.k ≡ t.k → more ≡ granted + bit (is_privileged t.values (get_or choices at 0)) →
    FollowsTo r choices u more (at + 1)
follow_turn r choices t u granted more at inv f e m =
    let le : bit (is_privileged t.values (get_or choices at 0)) ≤ 1 = bit_le (is_privileged t.values (get_or choices at 0)) in
    let few' = inv.few in
    let sum = f.moves in
    let all = inv.moves in
    record {
      ring = f.ring;
      same = e ∙ inv.same;
      below = f.below;
      state = f.state ∙ inv.state;
      moves = omega arith;
      few = omega arith;
    }

-- where all choices are followed the state is the one after them
pub follow_end : (r : Ring) (choices : List ℕ) (t : Ring) (granted at : ℕ) → FollowsTo r choices t granted at → length choices ≤ at → t ≡ after_passes r choices
follow_end r choices t granted at inv l = ap (after_passes t) (sym (drop_all at choices l)) ∙ inv.state

-- and the rest has fallen by at least the number of granted passes
pub follow_done : (r : Ring) (choices : List ℕ) (t : Ring) (granted at : ℕ) → FollowsTo r choices t granted at → length choices ≤ at →
    IsRing r → AreBelow (length r.values) choices → rest t ≤ rest r - granted
follow_done r choices t granted at inv l g b =
    let none : drop at choices ≡ [] = drop_all at choices l in
    let all = inv.moves in
    let zero' : length (granted_passes t (drop at choices)) ≡ 0 = ap (λ (x : List ℕ). length (granted_passes t x)) none in
    let d : rest (after_passes r choices) ≤ rest r - length (granted_passes r choices) = run_descent r choices g b in
    let q : rest t ≡ rest (after_passes r choices) = ap rest (follow_end r choices t granted at inv l) in
    omega arith

-- the first choice of those that are left is a machine
pub choice_below : (n : ℕ) (choices : List ℕ) (i : ℕ) → i < length choices → AreBelow n (drop i choices) → get_or choices i 0 < n
choice_below n choices i l b = let b' : AreBelow n (get_or choices i 0 ∷ drop (suc i) choices) = subst (λ (x : List ℕ). AreBelow n x) (drop-cons choices i 0 l) b in b'.0

-- a value that no machine past machine 0 was found to hold is absent
pub absent_where_not_held : (absent held : Bool) → held ≡ not absent → held ≡ false → absent ≡ true
absent_where_not_held true held e f = refl
absent_where_not_held false held e f = absurd (both_ways held f e)
