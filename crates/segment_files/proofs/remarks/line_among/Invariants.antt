use Rattle.std.proofs.Common.{◌≡◌, ◌+◌, length}
use Rattle.segment_files.specs.Remarks.{lines_in, line_among}
use Rattle.segment_files.proofs.remarks.line_among.Given as goal

abbrev pub invariant-loop-left : goal.invariant-loop-left
invariant-loop-left l = l.line + line_among (lines_in l.rest) l.left ≡ line_among (lines_in l.text) l.n

abbrev pub decreases-loop-left : goal.decreases-loop-left
decreases-loop-left l = length l.rest
