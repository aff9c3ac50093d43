use Rattle.std.proofs.Common.{◌≤◌, ◌+◌, length}
use Rattle.segment_files.specs.Remarks.{lines_in}
use Rattle.name_remarks.specs.Bindings.{nothing}
use Rattle.folder_of_locks.proofs.TakenLines.{HasTaken}
use Rattle.folder_of_locks.proofs.kept_lines.recorded_of.Given as goal

abbrev pub invariant-loop-rest : goal.invariant-loop-rest
invariant-loop-rest l = record {
  lines : HasTaken (lines_in l.lines) (nothing l.rings) l.recorded l.place (lines_in l.rest);
  few : l.place + length l.rest ≤ length l.lines;
}

abbrev pub decreases-loop-rest : goal.decreases-loop-rest
decreases-loop-rest l = length l.rest
