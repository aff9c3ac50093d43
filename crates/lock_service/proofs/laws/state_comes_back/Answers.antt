use Rattle.lock_service.proofs.StateBack.{holds_are_first, state_comes_back}
use Rattle.lock_service.proofs.laws.state_comes_back.Goals as goal

pub returns : goal.returns
returns c = record { first = holds_are_first; back = state_comes_back }
