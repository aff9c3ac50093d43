use Rattle.std.proofs.Common.{arith}
use Rattle.std.proofs.lemmas.Result.{err_from_is_err_and}
use Rattle.segment_files.specs.Reading.{base_at, repeat_at}
use Rattle.segment_files.proofs.Repeated.{repeat_more, repeat_fault, repeat_done}
use Rattle.segment_files.proofs.read.bases.Goals as goal

pub returns-in_err-one : goal.returns-in_err-one
returns-in_err-one c =
    let p = err_from_is_err_and c.from_residual.result c.from_residual.ensures.1 in
    rw (p.1, p.2) (repeat_fault base_at c.loop-i.found.items c.args.n c.loop-i.i c.loop-i.rest.now (repeat_at base_at c.args.n c.args.bytes.now) c.loop-i.invariant.0 c.in_err-one.field-0.0 c.loop-i-test.true c.in_err-one.ensures)

pub loop-i-preserved : goal.loop-i-preserved
loop-i-preserved c = (rw c.in_ok-push.ensures.items (repeat_more base_at c.loop-i.found.items c.args.n c.loop-i.i c.loop-i.rest.now (repeat_at base_at c.args.n c.args.bytes.now) c.loop-i.invariant.0 c.in_ok-one.one c.in_ok-one.after.now c.loop-i-test.true c.in_ok-one.ensures), omega (arith, c.in_ok-push.ensures.len, c.loop-i.invariant.1))

pub returns : goal.returns
returns c = repeat_done base_at c.loop-i.found.items c.args.n c.loop-i.i c.loop-i.rest.now (repeat_at base_at c.args.n c.args.bytes.now) c.loop-i.invariant.0 c.loop-i-test.false
