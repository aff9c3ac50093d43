use Rattle.std.proofs.Common.{refl}
use Rattle.lock_protocol.proofs.reading.unread.Goals as goal

pub returns-in-None : goal.returns-in-None
returns-in-None c = c.in-None.ensures.none refl
