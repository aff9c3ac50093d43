use Rattle.std.proofs.Common.{◌≡◌, length}
use Rattle.std.specs.List.{list_any}
use Rattle.segment_files.specs.Remarks.{lines_in}
use Rattle.segment_files.specs.TornSigns.{can_follow}
use Rattle.segment_files.proofs.torn_signs.has_later.Given as goal

abbrev pub invariant-loop-rest : goal.invariant-loop-rest
invariant-loop-rest l = list_any (can_follow l.reached l.most) (lines_in l.rest) ≡ list_any (can_follow l.reached l.most) (lines_in l.lines)

abbrev pub decreases-loop-rest : goal.decreases-loop-rest
decreases-loop-rest l = length l.rest
