use Rattle.std.proofs.Common.{◌≡◌, length, arith}
use Rattle.std.proofs.lemmas.List.{length-map}
use Rattle.held_locks.specs.Parts.{view_of, views_of}
use Rattle.held_locks.proofs.locks.Locks.leave.Goals as goal

pub leave_all-requires-clause-order : goal.leave_all-requires-clause-order
leave_all-requires-clause-order c =
    let size : length (views_of c.self.inside.locks.items) ≡ length c.self.inside.locks.items = length-map c.self.inside.locks.items view_of in
    let room = c.self.invariant.room in
    omega (arith, size, room)

pub invariant_of-self : goal.invariant_of-self
invariant_of-self c =
    let size : length (views_of c.leave_all.new.locks.items) ≡ length c.leave_all.new.locks.items = length-map c.leave_all.new.locks.items view_of in
    let room = c.leave_all.ensures.order in
    record { kept = c.leave_all.ensures.kept; holders = c.leave_all.ensures.holders; room = omega (arith, size, room) }
