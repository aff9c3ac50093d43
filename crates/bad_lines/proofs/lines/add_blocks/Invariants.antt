use Rattle.bad_lines.proofs.BlockLines.{AreToldBlocks}
use Rattle.bad_lines.proofs.lines.add_blocks.Given as goal

abbrev pub invariant-loop-i : goal.invariant-loop-i
invariant-loop-i l = AreToldBlocks l.version l.rings l.initial.out.items l.i l.line l.out.items
