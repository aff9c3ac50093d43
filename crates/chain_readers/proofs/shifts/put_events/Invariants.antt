use Rattle.std.proofs.Common.{◌≡◌, ◌++◌, map, take}
use Rattle.chain_readers.specs.Joining.{shifted_event}
use Rattle.chain_readers.proofs.shifts.put_events.Given as goal

abbrev pub invariant-loop-event : goal.invariant-loop-event
invariant-loop-event l = l.events.items ≡ l.initial.events.items ++ map (shifted_event l.base) (take l.event-index l.more)
