use Rattle.ring_model.proofs.HistoryLaws.{history_settles}
use Rattle.ring_model.proofs.legal_histories.history_settles.Goals as goal

pub returns : goal.returns
returns g c = history_settles
