use Rattle.std.proofs.Common.{take}
use Rattle.std.specs.Io.KnownBytes.{Appends}
use Rattle.one_thread_ring.specs.Journals.{event_lines}
use Rattle.one_thread_ring.proofs.journals.put_events.Given as goal

abbrev pub invariant-loop-event : goal.invariant-loop-event
invariant-loop-event g l = Appends (g.W.Write.contents l.initial.out) (g.W.Write.contents l.out) (event_lines l.ring (take l.event-index l.events))
