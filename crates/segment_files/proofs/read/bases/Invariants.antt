use Rattle.std.proofs.Common.{◌≡◌, ◌-◌, vec_len}
use Rattle.segment_files.specs.Reading.{base_at, repeat_at}
use Rattle.segment_files.proofs.Repeated.{with_values}
use Rattle.segment_files.proofs.read.bases.Given as goal

abbrev pub invariant-loop-i : goal.invariant-loop-i
invariant-loop-i l = (with_values l.found.items (repeat_at base_at (l.n - l.i) l.rest) ≡ repeat_at base_at l.n l.bytes) × (vec_len l.found ≡ l.i)
