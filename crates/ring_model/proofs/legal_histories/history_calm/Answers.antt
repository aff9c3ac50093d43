use Rattle.ring_model.proofs.HistoryLaws.{history_calm}
use Rattle.ring_model.proofs.legal_histories.history_calm.Goals as goal

pub returns : goal.returns
returns g c = history_calm
