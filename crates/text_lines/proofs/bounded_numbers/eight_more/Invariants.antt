use Rattle.std.proofs.Common.{◌≡◌, ℕ, ◌+◌, ◌<◌, ◌≤◌, ◌^◌, false, drop}
use Rattle.text_lines.specs.Reading.{digits_at, is_digit}
use Rattle.text_lines.proofs.bounded_numbers.eight_more.Given as goal

abbrev pub invariant-loop-i : goal.invariant-loop-i
invariant-loop-i l = record {
  some : 1 ≤ l.value;
  below : l.value < 10 ^ (l.i + 1);
  goes_on : (limit stop : ℕ) → 1000000000 ≤ limit → is_digit stop ≡ false → digits_at limit stop l.value (drop l.i l.bytes) ≡ digits_at limit stop l.first l.bytes;
}
