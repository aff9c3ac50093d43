use Rattle.std.proofs.Common.{◌≡◌, ◌<◌, ◌^◌, drop}
use Rattle.text_lines.specs.LongNumbers.{long_digits_at}
use Rattle.text_lines.proofs.long_numbers.digits.Given as goal

abbrev pub invariant-loop-i : goal.invariant-loop-i
invariant-loop-i l = (long_digits_at l.stop l.number (drop l.i l.bytes) ≡ long_digits_at l.stop l.first l.bytes) × (l.number < 2 ^ 64)
