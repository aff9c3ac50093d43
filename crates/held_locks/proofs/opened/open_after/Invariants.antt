use Rattle.std.proofs.Common.{◌≡◌, None, map, take}
use Rattle.ring_model.specs.Bases.{shifted}
use Rattle.held_locks.specs.Locks.{Call}
use Rattle.held_locks.specs.Promises.{open_after}
use Rattle.held_locks.proofs.opened.open_after.Given as goal

abbrev pub invariant-loop-event : goal.invariant-loop-event
invariant-loop-event l = l.held ≡ open_after None (map Call (shifted l.base (take l.event-index l.events)))
