use Rattle.ring_model.proofs.HistoryLaws.{history_descent}
use Rattle.ring_model.proofs.legal_histories.history_descent.Goals as goal

pub returns : goal.returns
returns g c = history_descent
