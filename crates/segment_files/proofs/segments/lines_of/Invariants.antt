use Rattle.std.proofs.Common.{◌≡◌, length, map, take}
use Rattle.std.specs.List.{flat_map}
use Rattle.saved_history.specs.Content.{block_of}
use Rattle.ring_check.specs.Lines.{block_lines}
use Rattle.segment_files.proofs.segments.lines_of.Given as goal

abbrev pub invariant-loop-ring : goal.invariant-loop-ring
invariant-loop-ring l = l.lines ≡ length (flat_map block_lines (take l.ring-index (map block_of l.rings)))
