use Rattle.std.proofs.Common.{◌≡◌, ℕ, ◌<◌, true, get_or}
use Rattle.text_lines.specs.Reading.{is_digit}
use Rattle.text_lines.proofs.bounded_numbers.are_eight_digits.Given as goal

abbrev pub invariant-loop-i : goal.invariant-loop-i
invariant-loop-i l = l.all ≡ true → (place : ℕ) → place < l.i → is_digit (get_or l.bytes place 0) ≡ true
