use Rattle.std.proofs.Common.{◌≡◌, ◌-◌, ◌≤◌, ℕ, true, get_or}
use Rattle.line_service.specs.SegmentNumbers.{has_number}
use Rattle.line_service.proofs.segment_numbers.range_of.Given as goal

abbrev pub invariant-loop-number : goal.invariant-loop-number
invariant-loop-number l = record {
  begins : l.first ≡ get_or l.numbers 0 0;
  ends : l.last ≡ get_or l.numbers (l.number-index - 1) 0;
  there : (n : ℕ) → l.first ≤ n → n ≤ l.last → has_number l.numbers n ≡ true;
}
