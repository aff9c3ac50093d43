use Rattle.line_replay.proofs.Looking.{far_here}
use Rattle.line_replay.proofs.following.follows.Goals as goal

pub returns-in-Some-clause-no : goal.returns-in-Some-clause-no
returns-in-Some-clause-no c = λ e.
    far_here c.args.noted c.args.most c.in-Some.count c.in-Some.field-0-1.now c.in-Some.field-0-2.now c.args.bytes.now c.in-Some.ensures (c.is_near.ensures.no e)
