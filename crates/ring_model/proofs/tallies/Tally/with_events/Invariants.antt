use Rattle.std.proofs.Common.{◌≡◌, take}
use Rattle.ring_model.specs.Tallies.{tallied}
use Rattle.ring_model.proofs.tallies.Tally.with_events.Given as goal

abbrev pub invariant-loop-event : goal.invariant-loop-event
invariant-loop-event l = l.tally ≡ tallied l.fn.self (take l.event-index l.events)
