use Rattle.std.proofs.Common.{[], refl}
use Rattle.line_service.proofs.putting.put_notes.Goals as goal

pub returns-in-None-clause-part : goal.returns-in-None-clause-part
returns-in-None-clause-part g c = rw c.in-None.is (c.args.bytes.now, ([], refl, tt))

pub returns-in-None-clause-lasts_part : goal.returns-in-None-clause-lasts_part
returns-in-None-clause-lasts_part g c = rw c.in-None.is (c.args.bytes.now, ([], refl, tt))
