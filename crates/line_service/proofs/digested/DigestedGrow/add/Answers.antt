use Rattle.std.proofs.Common.{take}
use Rattle.line_service.proofs.Hashing.{write_hashed}
use Rattle.line_service.proofs.digested.DigestedGrow.add.Goals as goal

pub returns-in-Ok-clause-added : goal.returns-in-Ok-clause-added
returns-in-Ok-clause-added g c =
    write_hashed (g.W.Grow.contents c.args.self.now.inner) (g.W.Grow.contents c.add.new.self) c.args.self.now.hasher c.update.new.self c.args.bytes.now c.in-Ok.ensures.added (λ m h. c.update.ensures m h)

pub returns-in-Err-clause-added : goal.returns-in-Err-clause-added
returns-in-Err-clause-added g c = (
  c.in-Err.ensures.added.0,
  write_hashed (g.W.Grow.contents c.args.self.now.inner) (g.W.Grow.contents c.add.new.self) c.args.self.now.hasher c.update-in-Err.new.self (take c.in-Err.count c.args.bytes.now) c.in-Err.ensures.added.1 (λ m h. c.update-in-Err.ensures m h),
)
