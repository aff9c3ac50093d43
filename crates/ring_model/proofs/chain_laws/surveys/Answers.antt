use Rattle.ring_model.proofs.Seen.{surveys_are_right, surveys_from_start}
use Rattle.ring_model.proofs.ChainHistories.{calm_is_at_least}
use Rattle.ring_model.proofs.chain_laws.surveys.Goals as goal

pub returns-clause-right : goal.returns-clause-right
returns-clause-right c = surveys_are_right

pub returns-clause-start : goal.returns-clause-start
returns-clause-start c = surveys_from_start

pub returns-clause-calm : goal.returns-clause-calm
returns-clause-calm c = calm_is_at_least
