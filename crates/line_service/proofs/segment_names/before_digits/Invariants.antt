use Rattle.std.proofs.Common.{◌≡◌, ◌-◌, ◌≤◌, ◌<◌, ℕ, length, get_or, IsTrue}
use Rattle.text_lines.specs.Reading.{is_digit}
use Rattle.line_service.proofs.segment_names.before_digits.Given as goal

abbrev pub invariant-loop-end : goal.invariant-loop-end
invariant-loop-end l = record {
  within : l.end ≤ length l.name;
  digits : (k : ℕ) → l.end ≤ k → k < length l.name → IsTrue (is_digit (get_or l.name k 0));
}

abbrev pub decreases-loop-end : goal.decreases-loop-end
decreases-loop-end l = l.end
