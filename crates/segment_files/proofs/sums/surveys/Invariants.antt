use Rattle.std.proofs.Common.{map, length}
use Rattle.saved_history.specs.Content.{Block, block_of}
use Rattle.segment_files.proofs.Totals.{AddsUp}
use Rattle.segment_files.proofs.sums.surveys.Given as goal

abbrev pub invariant-loop-ring : goal.invariant-loop-ring
invariant-loop-ring l = AddsUp (λ (k : Block). length k.surveys) (map block_of l.rings) l.ring-index l.sum
