use Rattle.saved_history.proofs.Passing.{WroteBelow}
use Rattle.ring_text.proofs.Blocks.{blocks_text, BlocksFit}
use Rattle.ring_text.proofs.outcomes.put_blocks.Given as goal

abbrev pub invariant-loop-place : goal.invariant-loop-place
invariant-loop-place g l = WroteBelow blocks_text BlocksFit (g.W.Write.contents l.initial.out) (g.W.Write.contents l.out) l.rings l.place
