use Rattle.std.proofs.Common.{sym, ◌∙◌, ap, List}
use Rattle.std.specs.Prelude.{slice_get}
use Rattle.held_locks.specs.declared.parts.LockParts.{LockParts}
use Rattle.held_locks.proofs.Lifting.{lock_kept}
use Rattle.held_locks.proofs.locks.Locks.stats.Goals as goal

pub stats_of-requires : goal.stats_of-requires
stats_of-requires c = record {
  rings = λ i p e. lock_kept c.self.inside.locks.items c.self.inside.waits i p c.self.invariant.kept (ap (λ (x : List LockParts). slice_get x i) (sym c.as_slice.ensures.value) ∙ e);
}
