use Rattle.std.proofs.Common.{take}
use Rattle.line_service.specs.SegmentNumbers.{AreNumbersOf}
use Rattle.line_service.proofs.segment_numbers.entry_numbers.Given as goal

abbrev pub invariant-loop-entry : goal.invariant-loop-entry
invariant-loop-entry l = AreNumbersOf (take l.entry-index l.entries) l.numbers.items
