use Rattle.std.proofs.Common.{◌≡◌, true, drop}
use Rattle.text_lines.specs.Reading.{word_at}
use Rattle.text_lines.proofs.fixed.begins_with.Given as goal

abbrev pub invariant-loop-i : goal.invariant-loop-i
invariant-loop-i l = l.all ≡ true → word_at (drop l.i l.word) (drop l.i l.bytes) ≡ word_at l.word l.bytes
