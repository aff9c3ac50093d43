use Rattle.saved_history.proofs.Passing.{WroteBelow}
use Rattle.ring_service.proofs.Spelled.{rings_text, RingsFit}
use Rattle.ring_service.proofs.saving.put_blocks.Given as goal

abbrev pub invariant-loop-place : goal.invariant-loop-place
invariant-loop-place g l = WroteBelow rings_text RingsFit (g.W.Write.contents l.initial.out) (g.W.Write.contents l.out) l.rings l.place
