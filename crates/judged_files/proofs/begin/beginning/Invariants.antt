use Rattle.std.proofs.Common.{◌≡◌, ◌++◌, length}
use Rattle.judged_files.specs.Beginnings.{beginning}
use Rattle.judged_files.proofs.begin.beginning.Given as goal

abbrev pub invariant-loop-rest : goal.invariant-loop-rest
invariant-loop-rest l = l.begun.items ++ beginning l.rest ≡ beginning l.bytes

abbrev pub decreases-loop-rest : goal.decreases-loop-rest
decreases-loop-rest l = length l.rest
