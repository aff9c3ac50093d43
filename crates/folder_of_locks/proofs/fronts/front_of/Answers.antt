use Rattle.std.proofs.Common.{inr, refl, take}
use Rattle.folder_of_locks.proofs.fronts.front_of.Goals as goal

pub returns-then-front-number-clause-err : goal.returns-then-front-number-clause-err
returns-then-front-number-clause-err c = (refl, inr (refl, (take c.in-Ok.front.end c.args.bytes.now, c.in-Ok.front.last, c.in-Ok.ensures.ok, c.if-front-number.true)))
