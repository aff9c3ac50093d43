use Rattle.bad_lines.proofs.Starts.{AreFrom}
use Rattle.bad_lines.proofs.blocks.first_over.Given as goal

abbrev pub invariant-loop-value : goal.invariant-loop-value
invariant-loop-value l = AreFrom l.limit l.values l.value-index
