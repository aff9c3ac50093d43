use Rattle.line_service.proofs.Hashing.{is_hashed}
use Rattle.line_service.proofs.ending.settle.Goals as goal

pub returns-in-Ok-clause-hasher : goal.returns-in-Ok-clause-hasher
returns-in-Ok-clause-hasher g c = λ bytes e. (is_hashed (g.D.Grown.Grow.contents c.args.writer.inner) c.args.writer.hasher bytes e).1
