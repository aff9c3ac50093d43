use Rattle.std.proofs.Common.{◌≡◌, take}
use Rattle.ring_logs.specs.Gathered.{all_surveys}
use Rattle.ring_logs.proofs.gathering.gather_surveys.Given as goal

abbrev pub invariant-loop-log : goal.invariant-loop-log
invariant-loop-log l = l.surveys.items ≡ all_surveys (take l.log-index l.logs)
