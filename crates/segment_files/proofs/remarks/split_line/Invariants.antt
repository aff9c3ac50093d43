use Rattle.std.proofs.Common.{◌≡◌, false, take}
use Rattle.journal.specs.Recovery.{has_line_end}
use Rattle.segment_files.proofs.remarks.split_line.Given as goal

abbrev pub invariant-loop-i : goal.invariant-loop-i
invariant-loop-i l = has_line_end (take l.i l.bytes) ≡ false
