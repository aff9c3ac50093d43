use Rattle.saved_history.proofs.Passing.{WroteBelow}
use Rattle.saved_history.proofs.ValueParts.{rings_text, RingsFit}
use Rattle.saved_history.proofs.write.put_blocks.Given as goal

abbrev pub invariant-loop-ring : goal.invariant-loop-ring
invariant-loop-ring g l = WroteBelow rings_text RingsFit (g.W.Write.contents l.initial.out) (g.W.Write.contents l.out) l.rings l.ring-index
