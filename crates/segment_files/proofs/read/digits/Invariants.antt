use Rattle.std.proofs.Common.{◌≡◌, ◌-◌, take, length}
use Rattle.segment_files.specs.Spelling.{digest_digits}
use Rattle.segment_files.specs.Reading.{digit_at, repeat_at}
use Rattle.segment_files.proofs.Repeated.{with_values}
use Rattle.segment_files.proofs.read.digits.Given as goal

abbrev pub invariant-loop-i : goal.invariant-loop-i
invariant-loop-i l = (with_values (take l.i l.found) (repeat_at digit_at (digest_digits - l.i) l.rest) ≡ repeat_at digit_at digest_digits l.bytes) × (length l.found ≡ digest_digits)
