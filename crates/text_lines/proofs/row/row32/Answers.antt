use Rattle.std.proofs.Common.{◌^◌, arith}
use Rattle.std.proofs.lemmas.Result.{err_from_is_err_and}
use Rattle.text_lines.specs.Reading.{row_at}
use Rattle.text_lines.proofs.Rows.{row_more, row_fault, row_done}
use Rattle.text_lines.proofs.row.row32.Goals as goal

pub returns-in_err-value-clause-gives : goal.returns-in_err-value-clause-gives
returns-in_err-value-clause-gives c =
    let p = err_from_is_err_and c.from_residual.result c.from_residual.ensures.1 in
    rw (p.1, p.2) (row_fault (2 ^ 32) c.loop-i.found.items c.args.n c.loop-i.i c.loop-i.rest.now (row_at (2 ^ 32) c.args.n c.args.bytes.now) c.loop-i.invariant.0 c.stop_byte-stop.result c.in_err-value.field-0.0 c.loop-i-test.true c.stop_byte-stop.ensures c.in_err-value.ensures)

pub loop-i-preserved : goal.loop-i-preserved
loop-i-preserved c = (rw c.in_ok-push.ensures.items (row_more (2 ^ 32) c.loop-i.found.items c.args.n c.loop-i.i c.loop-i.rest.now (row_at (2 ^ 32) c.args.n c.args.bytes.now) c.loop-i.invariant.0 c.stop_byte-stop.result c.in_ok-value.value c.in_ok-value.after.now c.loop-i-test.true c.stop_byte-stop.ensures c.in_ok-value.ensures), omega (arith, c.in_ok-push.ensures.len, c.loop-i.invariant.1))

pub returns-clause-gives : goal.returns-clause-gives
returns-clause-gives c = row_done (2 ^ 32) c.loop-i.found.items c.args.n c.loop-i.i c.loop-i.rest.now (row_at (2 ^ 32) c.args.n c.args.bytes.now) c.loop-i.invariant.0 c.loop-i-test.false
