use Rattle.std.proofs.Common.{◌≡◌, ◌+◌, ◌≤◌, drop}
use Rattle.ring_service.specs.Readers.{gaps}
use Rattle.ring_service.proofs.commands.gaps.Given as goal

abbrev pub invariant-loop-byte : goal.invariant-loop-byte
invariant-loop-byte l = record { passed : l.count + gaps (drop l.byte-index l.bytes) ≡ gaps l.bytes; few : l.count ≤ l.byte-index }
