-- The laws over runs of choices, by induction on the choices.
use Rattle.std.proofs.Common.{◌≡◌, ℕ, suc, ◌+◌, ◌-◌, ◌%◌, ◌<◌, ◌≤◌, true, false, List, [], ◌∷◌, length, refl, sym, ◌∙◌, ap, subst, inl, inr, arith}
use Rattle.std.proofs.lemmas.Bool.{cases_Bool, cond-true, cond-false}
use Rattle.ring_model.specs.Ring.{Ring, IsRing, is_privileged, moved, is_settled, rest, first_privileged, bound}
use Rattle.ring_model.specs.Runs.{passed, after_passes, granted_passes, AreBelow, GoesRoundFrom}
use Rattle.ring_model.specs.Laws.{RunDescent, RunSettles, Round}
use Rattle.ring_model.proofs.Moves.{length_move}
use Rattle.ring_model.proofs.Bound.{rest_bounded}
use Rattle.ring_model.proofs.Settled.{move_ring, rest_falls, rest_zero, settled_stays, settled_passes, first_is, only_one}

pub pass_granted : (r : Ring) (i : ℕ) → is_privileged r.values i ≡ true → passed r i ≡ moved r i
pass_granted r i e = cond-true (is_privileged r.values i) (moved r i) r e

pub pass_idle : (r : Ring) (i : ℕ) → is_privileged r.values i ≡ false → passed r i ≡ r
pass_idle r i e = cond-false (is_privileged r.values i) (moved r i) r e

pub pass_ring : (r : Ring) (i : ℕ) → IsRing r → i < length r.values → IsRing (passed r i)
pass_ring r i g l = elim (cases_Bool (is_privileged r.values i)) [
  | inl e ↦ subst (λ (x : Ring). IsRing x) (sym (pass_granted r i e)) (move_ring r i g l)
  | inr e ↦ subst (λ (x : Ring). IsRing x) (sym (pass_idle r i e)) g
]

pub length_pass : (r : Ring) (i : ℕ) → length (passed r i).values ≡ length r.values
length_pass r i = elim (cases_Bool (is_privileged r.values i)) [
  | inl e ↦ ap (λ (x : Ring). length x.values) (pass_granted r i e) ∙ length_move r i
  | inr e ↦ ap (λ (x : Ring). length x.values) (pass_idle r i e)
]

pub length_after : (r : Ring) (choices : List ℕ) → length (after_passes r choices).values ≡ length r.values
length_after r [] = refl
length_after r (i ∷ choices) = length_after (passed r i) choices ∙ length_pass r i

pub below_pass : (r : Ring) (i : ℕ) (choices : List ℕ) → AreBelow (length r.values) choices → AreBelow (length (passed r i).values) choices
below_pass r i choices b = subst (λ (n : ℕ). AreBelow n choices) (sym (length_pass r i)) b

pub run_descent : RunDescent
run_descent r [] g b = omega arith
run_descent r (i ∷ choices) g b =
    let ih : rest (after_passes (passed r i) choices) ≤ rest (passed r i) - length (granted_passes (passed r i) choices) =
    run_descent (passed r i) choices (pass_ring r i g b.0) (below_pass r i choices b.1) in
    elim (cases_Bool (is_privileged r.values i)) [
      | inl e ↦
          let gs : length (granted_passes r (i ∷ choices)) ≡ suc (length (granted_passes (passed r i) choices)) =
          ap (λ (x : List ℕ). length x) (cond-true (is_privileged r.values i) (i ∷ granted_passes (passed r i) choices) (granted_passes (passed r i) choices) e) in
          let f : rest (moved r i) ≤ rest r - 1 = rest_falls r i g b.0 e in
          let q : rest (passed r i) ≡ rest (moved r i) = ap rest (pass_granted r i e) in
          omega arith
      | inr e ↦
          let gs : length (granted_passes r (i ∷ choices)) ≡ length (granted_passes (passed r i) choices) =
          ap (λ (x : List ℕ). length x) (cond-false (is_privileged r.values i) (i ∷ granted_passes (passed r i) choices) (granted_passes (passed r i) choices) e) in
          let q : rest (passed r i) ≡ rest r = ap rest (pass_idle r i e) in
          omega arith
    ]

pub run_settles : RunSettles
run_settles r choices g b many =
    let d : rest (after_passes r choices) ≤ rest r - length (granted_passes r choices) = run_descent r choices g b in
    let top : rest r ≤ bound (length r.values) = rest_bounded r g in
    let two = g.two in
    let n : length (after_passes r choices).values ≡ length r.values = length_after r choices in
    rest_zero (after_passes r choices) (omega arith) (omega arith)

pub round : Round
round r [] g b u = (u, tt)
round r (i ∷ choices) g b u = elim (cases_Bool (is_privileged r.values i)) [
  | inl e ↦
      let two = g.two in
      let p : passed r i ≡ moved r i = pass_granted r i e in
      let u' : is_settled (passed r i).values ≡ true = ap (λ (x : Ring). is_settled x.values) p ∙ settled_stays r i g b.0 e u in
      let ih = round (passed r i) choices (pass_ring r i g b.0) (below_pass r i choices b.1) u' in
      let f = first_is r.values (omega arith) in
      let here : i ≡ first_privileged r.values = only_one r.values i (first_privileged r.values) u b.0 f.0 e f.1 in
      let there : first_privileged (passed r i).values ≡ (first_privileged r.values + 1) % length r.values = ap (λ (x : Ring). first_privileged x.values) p ∙ (settled_passes r i g b.0 e u ∙ ap (λ x. (x + 1) % length r.values) here) in
      let gs : granted_passes r (i ∷ choices) ≡ i ∷ granted_passes (passed r i) choices =
      cond-true (is_privileged r.values i) (i ∷ granted_passes (passed r i) choices) (granted_passes (passed r i) choices) e in
      let rest_round : GoesRoundFrom (length r.values) ((first_privileged r.values + 1) % length r.values) (granted_passes (passed r i) choices) =
      subst (λ (x : ℕ). GoesRoundFrom (length r.values) x (granted_passes (passed r i) choices)) there
      (subst (λ (n : ℕ). GoesRoundFrom n (first_privileged (passed r i).values) (granted_passes (passed r i) choices)) (length_pass r i) ih.1) in
      (ih.0, subst (λ (x : List ℕ). GoesRoundFrom (length r.values) (first_privileged r.values) x) (sym gs) (here, rest_round))
  | inr e ↦
      let p : passed r i ≡ r = pass_idle r i e in
      let u' : is_settled (passed r i).values ≡ true = ap (λ (x : Ring). is_settled x.values) p ∙ u in
      let ih = round (passed r i) choices (pass_ring r i g b.0) (below_pass r i choices b.1) u' in
      let gs : granted_passes r (i ∷ choices) ≡ granted_passes (passed r i) choices =
      cond-false (is_privileged r.values i) (i ∷ granted_passes (passed r i) choices) (granted_passes (passed r i) choices) e in
      let moved_start : GoesRoundFrom (length r.values) (first_privileged r.values) (granted_passes (passed r i) choices) =
      subst (λ (x : Ring). GoesRoundFrom (length x.values) (first_privileged x.values) (granted_passes (passed r i) choices)) p ih.1 in
      (ih.0, subst (λ (x : List ℕ). GoesRoundFrom (length r.values) (first_privileged r.values) x) (sym gs) moved_start)
]
