use Rattle.endless_ring.proofs.Segments.{receipts_are_right, surveys_now_are_right}
use Rattle.endless_ring.proofs.laws.answers_are_right.Goals as goal

pub returns-clause-receipts : goal.returns-clause-receipts
returns-clause-receipts c = receipts_are_right

pub returns-clause-surveys : goal.returns-clause-surveys
returns-clause-surveys c = surveys_now_are_right
