use Rattle.std.proofs.Common.{◌≡◌, ◌<◌, ◌≤◌, length, get_or, sym, arith, rules}
use Rattle.std.proofs.lemmas.Option.{slice_get_read, slice_get_past}
use Rattle.history_picture.proofs.marks.event_at.Goals as goal

pub returns-then-place-len : goal.returns-then-place-len
returns-then-place-len c =
    let lt : c.args.place < length c.args.ring.now.events.items = omega (arith, c.len.ensures, c.if-place-len.true) in
    let is : c.index.result.now ≡ get_or c.args.ring.now.events.items c.args.place c.index.result.now = search rules in
    sym (slice_get_read c.args.ring.now.events.items (length c.args.ring.now.events.items) c.args.place c.index.result.now (omega arith) lt is)

pub returns-else-place-len : goal.returns-else-place-len
returns-else-place-len c =
    let le : length c.args.ring.now.events.items ≤ c.args.place = omega (arith, c.len.ensures, c.if-place-len.false) in
    sym (slice_get_past c.args.ring.now.events.items c.args.place le)
