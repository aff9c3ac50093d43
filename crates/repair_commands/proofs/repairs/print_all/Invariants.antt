use Rattle.repair_commands.specs.Repaired.{HavePrinted, AreCounts}
use Rattle.repair_commands.proofs.repairs.print_all.Given as goal

abbrev pub invariant-loop-study : goal.invariant-loop-study
invariant-loop-study g l = record {
  printed : HavePrinted l.lines l.yielded l.rows.items (g.W.Write.contents l.initial.out) (g.W.Write.contents l.out);
  counts : AreCounts l.yielded l.counts.items;
}
