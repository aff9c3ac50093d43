use Rattle.std.proofs.Common.{map}
use Rattle.saved_history.proofs.Passing.{WroteBelow}
use Rattle.ring_service.proofs.Spelled.{rings_text, RingsFit}
use Rattle.lock_journal.specs.Segments.{ring_of}
use Rattle.lock_journal.proofs.texts.put_blocks.Given as goal

abbrev pub invariant-loop-lock : goal.invariant-loop-lock
invariant-loop-lock g l = WroteBelow rings_text RingsFit (g.W.Write.contents l.initial.out) (g.W.Write.contents l.out) (map ring_of l.locks) l.lock
