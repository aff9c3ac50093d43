use Rattle.std.proofs.Common.{◌≡◌, ◌++◌, drop, map}
use Rattle.ring_check.specs.Table.{event_of}
use Rattle.one_thread_ring.proofs.resuming.events.events_of.Given as goal

abbrev pub invariant-loop-line : goal.invariant-loop-line
invariant-loop-line l = l.events.items ++ map event_of (drop l.line-index l.lines) ≡ map event_of l.lines
