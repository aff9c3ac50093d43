use Rattle.lock_names.specs.Kept.{seen, named_of}
use Rattle.lock_names.proofs.Sized.{pool_ring}
use Rattle.lock_names.proofs.names.Names.used.Goals as goal

pub used_among-requires-clause-named : goal.used_among-requires-clause-named
used_among-requires-clause-named c = pool_ring (named_of (seen c.self.inside.rings c.self.inside.table)) c.self.invariant.named
