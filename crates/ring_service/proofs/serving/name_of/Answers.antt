use Rattle.std.proofs.Common.{arith}
use Rattle.ring_service.proofs.Names.{name_is}
use Rattle.ring_service.proofs.serving.name_of.Goals as goal

pub returns : goal.returns
returns c = let l = c.if-line-lt6.false in name_is c.args.line.now (omega (arith, l))
