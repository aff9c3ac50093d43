use Rattle.std.proofs.Common.{◌≡◌, length}
use Rattle.serve_commands.specs.ServedFolder.{has_floor}
use Rattle.serve_commands.proofs.serve_folder.has_floor.Given as goal

abbrev pub invariant-loop-rest : goal.invariant-loop-rest
invariant-loop-rest l = has_floor l.rest ≡ has_floor l.bytes

abbrev pub decreases-loop-rest : goal.decreases-loop-rest
decreases-loop-rest l = length l.rest
