use Rattle.std.specs.Prelude.{OnErr, Result, Ok, Err}
use Rattle.line_replica.specs.Reading.{did_at}
use Rattle.line_replica.proofs.Taking.{or_not}
use Rattle.line_replica.proofs.replica.answer_numbered.Goals as goal

if_err : {T E P : Type 0} (r : Result T E) → P → OnErr r P
if_err (Ok x) p = tt
if_err (Err e) p = p

pub returns-in-Ok-clause-err : goal.returns-in-Ok-clause-err
returns-in-Ok-clause-err g c =
    let a = c.in-Ok.ensures.ok in
    if_err c.take_in.result (or_not g.S.AnswersLines.is_answered c.args.tag c.args.replica.now.numbered c.answer_tagged.new.numbered (g.D.Disk.holds c.args.disk.now) (g.D.Disk.holds c.answer_tagged.new.disk) c.args.rest.now a.0 a.1 (did_at c.args.rest.now) a.2)
