use Rattle.line_replica.proofs.Given.{history, lost}
use Rattle.line_replica.proofs.laws.each_number_is_done_once.Goals as goal

pub returns-clause-history : goal.returns-clause-history
returns-clause-history g c = history g.S.AnswersLines.is_answered

pub returns-clause-lost : goal.returns-clause-lost
returns-clause-lost g c = lost g.S.AnswersLines.is_answered
