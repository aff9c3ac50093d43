use Rattle.lock_service.proofs.RemarksBack.{remarks_bring_back}
use Rattle.lock_service.proofs.laws.remarks_bring_back.Goals as goal

pub returns : goal.returns
returns c = remarks_bring_back
