use Rattle.std.proofs.Common.{◌≡◌, length, inl, ◌∙◌, arith}
use Rattle.held_locks.specs.Parts.{view_of}
use Rattle.held_locks.proofs.Turned.{granted_is}
use Rattle.held_locks.proofs.parts.grant.Goals as goal

pub returns : goal.returns
returns c =
    let before : c.len.result ≡ length c.args.lock.now.queue.items = c.len.ensures ∙ c.args.lock.now.queue.ok.0 in
    let room = c.in-Ok.ensures.ok in
    let left = c.pass_first-token.ensures.room in
    inl (granted_is (view_of c.args.lock.now) c.reserve.new.ring c.pass_first-token.new.ring c.args.waiter c.pass_first-token.result c.told.result (record { ring = c.pass_first-token.ensures.kept; room = omega (arith, before, room, left) }) c.in-Ok.ensures.same c.pass_first-token.ensures.made c.pass_first-token.ensures.number c.told.ensures)
