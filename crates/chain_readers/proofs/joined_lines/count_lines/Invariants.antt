use Rattle.std.proofs.Common.{map, length}
use Rattle.saved_history.specs.Content.{Block, block_of}
use Rattle.ring_check.specs.Lines.{block_lines}
use Rattle.segment_files.proofs.Totals.{AddsUp}
use Rattle.chain_readers.proofs.joined_lines.count_lines.Given as goal

abbrev pub invariant-loop-ring : goal.invariant-loop-ring
invariant-loop-ring l = AddsUp (λ (k : Block). length (block_lines k)) (map block_of l.rings) l.ring-index l.lines
