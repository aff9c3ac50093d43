use Rattle.line_replay.proofs.Looking.{next_here, other_here}
use Rattle.line_replay.proofs.following.next_note.Goals as goal

pub returns-then-is_next : goal.returns-then-is_next
returns-then-is_next c = next_here c.args.noted c.in-Some.count c.in-Some.line.now c.in-Some.rest.now c.args.bytes.now c.in-Some.ensures (c.is_next.ensures.yes c.if-is_next.true)

pub returns-else-is_next : goal.returns-else-is_next
returns-else-is_next c = other_here c.args.noted c.in-Some.count c.in-Some.line.now c.in-Some.rest.now c.args.bytes.now c.in-Some.ensures (c.is_next.ensures.no c.if-is_next.false)
