use Rattle.line_replica.proofs.Taking.{inside_or_not}
use Rattle.line_replica.proofs.numbered.answer_fresh.Goals as goal

pub returns-in-Err-clause-err : goal.returns-in-Err-clause-err
returns-in-Err-clause-err g c = inside_or_not g.S.AnswersLines.is_answered c.in-Err.ensures.err
