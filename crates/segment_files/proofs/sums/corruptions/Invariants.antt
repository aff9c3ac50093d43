use Rattle.std.proofs.Common.{map}
use Rattle.ring_model.specs.Surveys.{corrupted_count}
use Rattle.saved_history.specs.Content.{Block, block_of}
use Rattle.ring_check.specs.Legal.{history}
use Rattle.segment_files.proofs.Totals.{AddsUp}
use Rattle.segment_files.proofs.sums.corruptions.Given as goal

abbrev pub invariant-loop-ring : goal.invariant-loop-ring
invariant-loop-ring l = AddsUp (λ (k : Block). corrupted_count (history k)) (map block_of l.rings) l.ring-index l.sum
