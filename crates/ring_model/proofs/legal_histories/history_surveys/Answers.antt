use Rattle.ring_model.proofs.HistoryLaws.{history_surveys}
use Rattle.ring_model.proofs.legal_histories.history_surveys.Goals as goal

pub returns : goal.returns
returns g c = history_surveys
