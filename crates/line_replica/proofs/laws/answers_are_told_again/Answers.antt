use Rattle.line_replica.proofs.Again.{told_again, as_before}
use Rattle.line_replica.proofs.laws.answers_are_told_again.Goals as goal

pub returns-clause-again : goal.returns-clause-again
returns-clause-again g c = told_again g.S.AnswersLines.is_answered

pub returns-clause-behind : goal.returns-clause-behind
returns-clause-behind g c = as_before g.S.AnswersLines.is_answered
