use Rattle.std.proofs.Common.{◌≡◌, length, map}
use Rattle.saved_history.specs.Content.{block_of}
use Rattle.saved_history.specs.Spelling.{RingHeaderFits}
use Rattle.saved_history.specs.Lines.{rings_at}
use Rattle.saved_history.proofs.Loops.{with_blocks}
use Rattle.saved_history.proofs.blocks.rings.Given as goal

abbrev pub invariant-loop-found : goal.invariant-loop-found
invariant-loop-found l = (with_blocks (map block_of l.found.items) (rings_at l.version l.head l.rest) ≡ rings_at l.version l.fn.first l.bytes) × RingHeaderFits l.head

abbrev pub decreases-loop-found : goal.decreases-loop-found
decreases-loop-found l = length l.rest
