-- The other lead breaks descent at one copy.
use Rattle.std.proofs.Common.{ℕ, zero, suc, ◌<◌, get_or, refl, arith}
use Rattle.ring_model.specs.Ring.{IsRing}
use Rattle.ring_model.specs.OtherLead.{OtherDescent, OtherRestRises, before_copy}

pub before_ring : IsRing before_copy
before_ring = record { two = omega arith; enough = omega arith; below = at }
  where
    at : (i : ℕ) → i < 4 → get_or before_copy.values i 0 < 4
    at zero l = omega arith
    at (suc zero) l = omega arith
    at (suc (suc zero)) l = omega arith
    at (suc (suc (suc zero))) l = omega arith
    at (suc (suc (suc (suc i)))) l = absurd (omega arith)

pub other_rest_rises : OtherRestRises
other_rest_rises = (refl, refl, refl, refl, refl, refl)

pub no_other_descent : OtherDescent → ⊥
no_other_descent d = let h : 15 < 6 = d before_copy 1 before_ring (omega arith) refl refl in omega arith
