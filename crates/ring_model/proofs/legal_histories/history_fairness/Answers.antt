use Rattle.ring_model.proofs.HistoryLaws.{history_fairness}
use Rattle.ring_model.proofs.legal_histories.history_fairness.Goals as goal

pub returns : goal.returns
returns g c = history_fairness
