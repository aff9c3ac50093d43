use Rattle.std.proofs.Common.{◌+◌, ◌≤◌, length}
use Rattle.judged_files.specs.Lines.{whole_lines}
use Rattle.judged_files.proofs.Stepping.{Reached}
use Rattle.judged_files.proofs.judging.judge_lines.Given as goal

abbrev pub invariant-loop-rest : goal.invariant-loop-rest
invariant-loop-rest l = record {
  reached : Reached l.fn.judge (whole_lines l.bytes) l.judge l.done l.count (whole_lines l.rest);
  few : l.count + length l.rest ≤ length l.bytes;
}

abbrev pub decreases-loop-rest : goal.decreases-loop-rest
decreases-loop-rest l = length l.rest
