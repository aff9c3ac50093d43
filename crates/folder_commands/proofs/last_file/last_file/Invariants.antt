use Rattle.std.specs.Prelude.{IfOk, IfErr}
use Rattle.folder_commands.specs.SegmentRecovered.{IsLastFile, IsLastRefused}
use Rattle.folder_commands.proofs.last_file.last_file.Given as goal

abbrev pub invariant-loop : goal.invariant-loop
invariant-loop g l = record {
  ok : IfOk l.found (λ x. IsLastFile (g.D.Disk.holds l.disk) l.folder x);
  err : IfErr l.found (λ e. IsLastRefused (g.D.Disk.holds l.disk) l.folder e);
}
