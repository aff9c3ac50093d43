use Rattle.std.proofs.Common.{◌≡◌, ◌≤◌, take}
use Rattle.ring_model.specs.Surveys.{calm}
use Rattle.ring_model.proofs.replay.calm.Given as goal

abbrev pub invariant-loop-event : goal.invariant-loop-event
invariant-loop-event l = record { counted : l.calm ≡ calm (take l.event-index l.events); small : l.calm ≤ l.event-index }
