use Rattle.std.proofs.Common.{take}
use Rattle.ring_logs.specs.Seats.{AreOfSeats}
use Rattle.one_thread_ring.proofs.resuming.events.are_seated.Given as goal

abbrev pub invariant-loop-event : goal.invariant-loop-event
invariant-loop-event l = AreOfSeats l.seats (take l.event-index l.events)
