use Rattle.std.specs.Prelude.{map, IfOk, IfErr}
use Rattle.lock_commands.specs.ToldHolds.{called}
use Rattle.lock_commands.specs.HoldsAnswer.{AreFolderHolds, IsFolderUnheld}
use Rattle.lock_commands.proofs.held_looks.holds_in.Given as goal

abbrev pub invariant-loop : goal.invariant-loop
invariant-loop g l = record {
  ok : IfOk l.found (λ found. AreFolderHolds l.folder (g.D.Disk.holds l.disk) (called found.names) (map (λ v. v.items) found.locks.items));
  err : IfErr l.found (λ e. IsFolderUnheld l.folder (g.D.Disk.holds l.disk) e);
}
