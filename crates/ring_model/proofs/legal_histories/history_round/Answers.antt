use Rattle.ring_model.proofs.HistoryLaws.{history_round}
use Rattle.ring_model.proofs.legal_histories.history_round.Goals as goal

pub returns : goal.returns
returns g c = history_round
