use Rattle.std.proofs.Common.{◌≡◌, ◌≤◌, length, drop}
use Rattle.text_lines.specs.Reading.{word_at}
use Rattle.text_lines.proofs.fixed.after_word.Given as goal

abbrev pub invariant-loop-i : goal.invariant-loop-i
invariant-loop-i l = (word_at (drop l.i l.word) (drop l.i l.bytes) ≡ word_at l.word l.bytes) × (l.i ≤ length l.bytes)
