use Rattle.std.proofs.Common.{◌≡◌, drop}
use Rattle.std.specs.List.{list_all}
use Rattle.segment_files.specs.Spelling.{is_digit}
use Rattle.line_replica.proofs.reading.are_digits.Given as goal

abbrev pub invariant-loop-i : goal.invariant-loop-i
invariant-loop-i l = list_all is_digit (drop l.i l.bytes) ≡ list_all is_digit l.bytes
