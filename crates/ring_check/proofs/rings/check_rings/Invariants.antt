use Rattle.ring_check.proofs.BlockLines.{AreGoodBlocks}
use Rattle.ring_check.proofs.rings.check_rings.Given as goal

abbrev pub invariant-loop-i : goal.invariant-loop-i
invariant-loop-i l = AreGoodBlocks l.version l.rings l.i l.line
