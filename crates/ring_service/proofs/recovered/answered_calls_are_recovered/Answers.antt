use Rattle.ring_service.proofs.Recovering.{answers_are_recovered}
use Rattle.ring_service.proofs.recovered.answered_calls_are_recovered.Goals as goal

pub returns : goal.returns
returns c = answers_are_recovered
