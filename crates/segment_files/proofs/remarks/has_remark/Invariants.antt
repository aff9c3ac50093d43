use Rattle.std.proofs.Common.{◌≡◌, length}
use Rattle.std.specs.List.{list_any}
use Rattle.segment_files.specs.Remarks.{lines_in, is_remark}
use Rattle.segment_files.proofs.remarks.has_remark.Given as goal

abbrev pub invariant-loop-rest : goal.invariant-loop-rest
invariant-loop-rest l = list_any is_remark (lines_in l.rest) ≡ list_any is_remark (lines_in l.text)

abbrev pub decreases-loop-rest : goal.decreases-loop-rest
decreases-loop-rest l = length l.rest
