use Rattle.line_service.proofs.Hashing.{hashed_is}
use Rattle.line_service.proofs.digested.Digested.new.Goals as goal

pub returns-clause-known : goal.returns-clause-known
returns-clause-known g c = λ bytes e h. hashed_is (g.W.Grow.contents c.args.inner) c.args.hasher bytes e h
