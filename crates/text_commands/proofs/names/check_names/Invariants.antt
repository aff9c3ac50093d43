use Rattle.std.specs.Prelude.{OnOk, IfErr}
use Rattle.text_commands.specs.Judged.{IsFolderNamed, AreNamesWrong}
use Rattle.text_commands.proofs.names.check_names.Given as goal

abbrev pub invariant-loop : goal.invariant-loop
invariant-loop g l = record {
  ok : OnOk l.found (IsFolderNamed l.folder (g.D.Disk.holds l.disk));
  err : IfErr l.found (λ e. AreNamesWrong l.folder (g.D.Disk.holds l.disk) e);
}
