use Rattle.std.proofs.Common.{◌≡◌, ℕ, ◌+◌, ◌%◌, ◌<◌, ◌≤◌, get_or, false}
use Rattle.ring_model.specs.Ring.{is_absent}
use Rattle.ring_check.proofs.gauge.Gauge.lead.Given as goal

abbrev pub invariant-loop-steps : goal.invariant-loop-steps
invariant-loop-steps l = (i : ℕ) → 1 ≤ i → i < l.steps → is_absent l.self.values.items ((get_or l.self.values.items 0 0 + i) % l.self.k) ≡ false
