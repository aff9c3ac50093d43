use Rattle.std.proofs.Common.{◌≡◌, ◌++◌, length, arith}
use Rattle.std.specs.List.{flat_map}
use Rattle.text_lines.proofs.Writing.{writes_then, writes_err}
use Rattle.segment_files.specs.Spelling.{number_line, behind_line, base_line}
use Rattle.segment_files.proofs.write.put_head.Goals as goal

pub returns-in-Ok-clause-written : goal.returns-in-Ok-clause-written
returns-in-Ok-clause-written g c =
    let h = c.args.head.now in
    let ok = h.bases.ok in
    let many : c.len.result ≡ length h.bases.items = omega (arith, ok, c.len.ensures) in
    let below = rw c.deref.ensures.value at c.put_below_number.ensures.written in
    let first = rw many at c.in-Ok.ensures in
    writes_then _ _ _ c.put_below_number.result (number_line h.number (length h.bases.items)) (behind_line h.behind ++ flat_map base_line h.bases.items) first below

pub returns-in-Err-clause-written : goal.returns-in-Err-clause-written
returns-in-Err-clause-written g c =
    let h = c.args.head.now in
    let ok = h.bases.ok in
    let many : c.len.result ≡ length h.bases.items = omega (arith, ok, c.len.ensures) in
    let first = rw many at c.in-Err.ensures in
    writes_err _ _ c.in-Err.fault (number_line h.number (length h.bases.items)) (behind_line h.behind ++ flat_map base_line h.bases.items) first
