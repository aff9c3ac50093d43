use Rattle.std.proofs.Common.{◌≡◌, ◌+◌, ◌≤◌, drop}
use Rattle.text_lines.specs.Reading.{digits_at}
use Rattle.text_lines.proofs.bounded_numbers.digits.Given as goal

abbrev pub invariant-loop-i : goal.invariant-loop-i
invariant-loop-i l = (digits_at (l.max + 1) l.stop l.value (drop l.i l.bytes) ≡ digits_at (l.max + 1) l.stop l.first l.bytes) × (l.value ≤ l.max)
