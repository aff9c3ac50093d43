use Rattle.ring_model.proofs.HistoryLaws.{history_keeps_ring}
use Rattle.ring_model.proofs.legal_histories.history_keeps_ring.Goals as goal

pub returns : goal.returns
returns g c = history_keeps_ring
