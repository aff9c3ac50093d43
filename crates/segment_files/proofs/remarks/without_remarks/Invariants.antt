use Rattle.std.proofs.Common.{◌≡◌, ◌++◌, length}
use Rattle.segment_files.specs.Remarks.{without_remarks}
use Rattle.segment_files.proofs.remarks.without_remarks.Given as goal

abbrev pub invariant-loop-rest : goal.invariant-loop-rest
invariant-loop-rest l = l.kept.items ++ without_remarks l.rest ≡ without_remarks l.text

abbrev pub decreases-loop-rest : goal.decreases-loop-rest
decreases-loop-rest l = length l.rest
