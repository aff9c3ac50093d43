use Rattle.std.proofs.Common.{◌≡◌, drop}
use Rattle.ring_service.specs.Readers.{end_of_line}
use Rattle.ring_service.proofs.commands.end_of_line.Given as goal

abbrev pub invariant-loop-i : goal.invariant-loop-i
invariant-loop-i l = end_of_line (drop l.i l.bytes) ≡ end_of_line l.bytes
