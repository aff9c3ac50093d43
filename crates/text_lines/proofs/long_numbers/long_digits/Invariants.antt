use Rattle.text_lines.proofs.LongDecimals.{IsReadTo}
use Rattle.text_lines.proofs.long_numbers.long_digits.Given as goal

abbrev pub invariant-loop-i : goal.invariant-loop-i
invariant-loop-i l = IsReadTo l.stop l.first l.bytes l.number l.i
