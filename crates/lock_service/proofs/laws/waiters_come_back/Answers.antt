use Rattle.lock_service.proofs.StateStays.{having_state_stays}
use Rattle.lock_service.proofs.WaitersBack.{waiters_come_back}
use Rattle.lock_service.proofs.laws.waiters_come_back.Goals as goal

pub returns : goal.returns
returns c = record { stays = having_state_stays; back = waiters_come_back }
