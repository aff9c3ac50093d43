use Rattle.std.proofs.Common.{◌≡◌, ℕ, ◌<◌, ◌≤◌, ◌+◌, ◌%◌, false, get_or}
use Rattle.ring_model.specs.Ring.{is_absent}
use Rattle.ring_settle.proofs.potential.lead.Given as goal

abbrev pub invariant-loop-steps : goal.invariant-loop-steps
invariant-loop-steps l = (i : ℕ) → 1 ≤ i → i < l.steps → is_absent l.state.values ((get_or l.state.values 0 0 + i) % l.state.k) ≡ false
