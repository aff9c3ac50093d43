use Rattle.ring_farm.specs.Promises.{AreUnchanged}
use Rattle.ring_farm.proofs.rooms.Room.reserve_entries.Given as goal

abbrev pub invariant-loop-i : goal.invariant-loop-i
invariant-loop-i g l = AreUnchanged l.initial.seats.items l.seats.items
