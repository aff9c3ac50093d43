-- What a daemon remembers after its choices.
use Rattle.std.proofs.Common.{◌≡◌, ℕ, zero, suc, true, false, refl}
use Rattle.std.proofs.lemmas.Bool.{cond-true, cond-false}
use Rattle.ring_model.specs.Ring.{Ring, is_settled}
use Rattle.ring_model.specs.Runs.{passed}
use Rattle.ring_repairs.specs.Daemons.{choice, remembered}
use Rattle.ring_repairs.specs.Rounds.{memory_after}
use Rattle.ring_repairs.specs.declared.daemons.Daemon.{Daemon}
use Rattle.ring_repairs.specs.declared.daemons.Memory.{Memory}

pub memory_none : (d : Daemon) (m : Memory) (r : Ring) → memory_after d 0 m r ≡ m
unfolding memory_after
memory_none d m r = refl

pub memory_settled : (d : Daemon) (most : ℕ) (m : Memory) (r : Ring) → is_settled r.values ≡ true → memory_after d most m r ≡ m
unfolding memory_after
memory_settled d zero m r e = refl
memory_settled d (suc most) m r e = cond-true (is_settled r.values) m (memory_after d most (remembered d m r) (passed r (choice d m r))) e

pub memory_goes_on : (d : Daemon) (most : ℕ) (m : Memory) (r : Ring) → is_settled r.values ≡ false →
    memory_after d (suc most) m r ≡ memory_after d most (remembered d m r) (passed r (choice d m r))
unfolding memory_after
memory_goes_on d most m r e = cond-false (is_settled r.values) m (memory_after d most (remembered d m r) (passed r (choice d m r))) e
