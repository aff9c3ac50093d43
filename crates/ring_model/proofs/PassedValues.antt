-- Whether a machine of a ring of n machines with K = k is privileged, and its value after a pass, from nothing but the values.
use Rattle.std.proofs.Common.{◌≡◌, ℕ, zero, suc, ◌+◌, ◌-◌, ◌%◌, ◌<◌, ◌≤◌, ◌≢◌, true, false, List, [], ◌∷◌, ◌++◌, length, get_or, sym, ◌∙◌, ap, arith, eqb}
use Rattle.std.proofs.lemmas.Bool.{eq-eqb, ne_eqb, not_from_true, not_from_false}
use Rattle.std.proofs.Math.Nat.{mod-eq_of_lt}
use Rattle.ring_model.specs.Ring.{Ring, IsRing, is_privileged}
use Rattle.ring_model.specs.Runs.{passed, AreBelow}
use Rattle.ring_model.proofs.Moves.{at_mover}
use Rattle.ring_model.proofs.Runs.{pass_granted, pass_ring, length_pass}
use Rattle.ring_model.proofs.Labels.{pass_copies, same_k}

pub below_append : (n : ℕ) (xs ys : List ℕ) → AreBelow n xs → AreBelow n ys → AreBelow n (xs ++ ys)
below_append n [] ys a b = b
below_append n (x ∷ xs) ys a b = (a.0, below_append n xs ys a.1 b)

module _ (n k : ℕ) where
  pub record IsOn (r : Ring) : Type 0 where
    pub ring : IsRing r
    pub size : length r.values ≡ n
    pub same : r.k ≡ k

  pub on_pass : (r : Ring) (i : ℕ) → i < n → IsOn r → IsOn (passed r i)
  on_pass r i l o =
      let size' = o.size in
      record { ring = pass_ring r i o.ring (omega arith); size = length_pass r i ∙ o.size; same = same_k r i ∙ o.same }

  -- the mover's value after a pass
  pub copied : (r : Ring) (i : ℕ) → IsOn r → 1 ≤ i → i < n → get_or (passed r i).values i 0 ≡ get_or r.values (i - 1) 0
  copied r zero o one l = absurd (omega arith)
  copied r (suc i) o one l =
      let size' = o.size in
      let at : i ≡ suc i - 1 = omega arith in
      pass_copies r i (omega arith) ∙ ap (λ x. get_or r.values x 0) at

  pub zero_on : (r : Ring) → IsOn r → get_or r.values (n - 1) 0 ≡ get_or r.values 0 0 → is_privileged r.values 0 ≡ true
  zero_on r o e =
      let at : length r.values - 1 ≡ n - 1 = ap (λ x. x - 1) o.size in
      eq-eqb (get_or r.values (length r.values - 1) 0) (get_or r.values 0 0) (ap (λ x. get_or r.values x 0) at ∙ e)

  pub zero_off : (r : Ring) → IsOn r → get_or r.values (n - 1) 0 ≢ get_or r.values 0 0 → is_privileged r.values 0 ≡ false
  zero_off r o ne =
      let at : length r.values - 1 ≡ n - 1 = ap (λ x. x - 1) o.size in
      ne_eqb (get_or r.values (length r.values - 1) 0) (get_or r.values 0 0) (λ q. ne (sym (ap (λ x. get_or r.values x 0) at) ∙ q))

  pub other_on : (r : Ring) (i : ℕ) → 1 ≤ i → get_or r.values (i - 1) 0 ≢ get_or r.values i 0 → is_privileged r.values i ≡ true
  other_on r zero one ne = absurd (omega arith)
  other_on r (suc i) one ne =
      let at : i ≡ suc i - 1 = omega arith in
      not_from_false (eqb (get_or r.values i 0) (get_or r.values (suc i) 0))
      (ne_eqb (get_or r.values i 0) (get_or r.values (suc i) 0) (λ q. ne (sym (ap (λ x. get_or r.values x 0) at) ∙ q)))

  pub other_off : (r : Ring) (i : ℕ) → 1 ≤ i → get_or r.values (i - 1) 0 ≡ get_or r.values i 0 → is_privileged r.values i ≡ false
  other_off r zero one e = absurd (omega arith)
  other_off r (suc i) one e =
      let at : i ≡ suc i - 1 = omega arith in
      not_from_true (eqb (get_or r.values i 0) (get_or r.values (suc i) 0))
      (eq-eqb (get_or r.values i 0) (get_or r.values (suc i) 0) (ap (λ x. get_or r.values x 0) at ∙ e))

  pub stepped : (r : Ring) (v : ℕ) → IsOn r → get_or r.values (n - 1) 0 ≡ v → get_or r.values 0 0 ≡ v → v + 1 < k → get_or (passed r 0).values 0 0 ≡ v + 1
  stepped r v o last first small =
      let size' = o.size in
      let same' = o.same in
      let y : is_privileged r.values 0 ≡ true = zero_on r o (last ∙ sym first) in
      let up : (v + 1) % r.k ≡ v + 1 = mod-eq_of_lt (omega arith) in
      ap (λ (t : Ring). get_or t.values 0 0) (pass_granted r 0 y) ∙ (at_mover r 0 (omega arith) ∙ (ap (λ x. (x + 1) % r.k) first ∙ up))
