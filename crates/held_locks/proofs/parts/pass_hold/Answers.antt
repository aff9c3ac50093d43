use Rattle.std.proofs.Common.{◌≡◌, ◌≤◌, ◌+◌, List, ◌∷◌, length, ap, arith}
use Rattle.held_locks.specs.declared.answers.Waiter.{Waiter}
use Rattle.held_locks.specs.Parts.{view_of}
use Rattle.held_locks.proofs.Turned.{passed_turned, taken}
use Rattle.held_locks.proofs.parts.pass_hold.Goals as goal

pub pass_first-token-requires-clause-room : goal.pass_first-token-requires-clause-room
pass_first-token-requires-clause-room c =
    let head = c.requires.head in
    let some : length c.args.lock.now.queue.items ≡ length (c.args.waiter ∷ head.0) = ap (λ (x : List Waiter). length x) head.1 in
    let room = c.requires.kept.room in
    omega (arith, some, room)

pub returns-clause-turned : goal.returns-clause-turned
returns-clause-turned c =
    let head = c.requires.head in
    let queue : c.take_head.new.queue.items ≡ head.0 = taken c.args.lock.now.queue.items c.take_head.new.queue.items c.args.waiter head.0 c.take_head.result head.1 c.take_head.ensures in
    let before : length c.args.lock.now.queue.items ≤ c.args.lock.now.ring.ring.book.room = c.requires.kept.room in
    let behind : c.args.lock.now.ring.ring.book.room ≤ c.pass_first-token.new.ring.ring.book.room + 1 = c.pass_first-token.ensures.room in
    passed_turned c.args.number (view_of c.args.lock.now) c.pass_first-token.new.ring c.take_head.new.queue.items c.args.waiter head.0 c.args.client c.pass_first-token.result c.args.own c.args.over c.args.waits.now c.end.new.self
    c.pass_first-token.ensures.kept (omega arith) head.1 queue c.requires.now c.pass_first-token.ensures.made c.pass_first-token.ensures.number c.end.ensures
