use Rattle.std.proofs.Common.{◌≡◌, ◌-◌, ◌^◌, vec_len}
use Rattle.text_lines.specs.Reading.{row_at}
use Rattle.text_lines.proofs.Rows.{with_numbers}
use Rattle.text_lines.proofs.row.row32.Given as goal

abbrev pub invariant-loop-i : goal.invariant-loop-i
invariant-loop-i l = (with_numbers l.found.items (row_at (2 ^ 32) (l.n - l.i) l.rest) ≡ row_at (2 ^ 32) l.n l.bytes) × (vec_len l.found ≡ l.i)
