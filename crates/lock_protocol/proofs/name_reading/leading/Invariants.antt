use Rattle.std.proofs.Common.{◌≡◌, ◌+◌, drop}
use Rattle.lock_protocol.specs.NameReading.{leading}
use Rattle.lock_protocol.proofs.name_reading.leading.Given as goal

abbrev pub invariant-loop-i : goal.invariant-loop-i
invariant-loop-i l = leading l.bytes ≡ l.i + leading (drop l.i l.bytes)
