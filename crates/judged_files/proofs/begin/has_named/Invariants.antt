use Rattle.std.proofs.Common.{◌≡◌, length}
use Rattle.judged_files.specs.Lines.{has_named}
use Rattle.judged_files.proofs.begin.has_named.Given as goal

abbrev pub invariant-loop-rest : goal.invariant-loop-rest
invariant-loop-rest l = has_named l.rest ≡ has_named l.bytes

abbrev pub decreases-loop-rest : goal.decreases-loop-rest
decreases-loop-rest l = length l.rest
