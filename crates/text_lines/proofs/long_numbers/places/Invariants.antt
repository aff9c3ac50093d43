use Rattle.std.proofs.Common.{◌≡◌, ◌-◌}
use Rattle.text_lines.specs.LongNumbers.{places_at}
use Rattle.text_lines.proofs.LongDecimals.{behind}
use Rattle.text_lines.proofs.long_numbers.places.Given as goal

abbrev pub invariant-loop-i : goal.invariant-loop-i
invariant-loop-i l = behind l.found.items (places_at (l.count - l.i) l.rest) ≡ places_at l.count l.bytes
