use Rattle.std.proofs.lemmas.Result.{err_from_is_err_and}
use Rattle.text_lines.specs.LongNumbers.{places_at}
use Rattle.text_lines.proofs.LongDecimals.{places_more, places_fault, places_done}
use Rattle.text_lines.proofs.long_numbers.places.Goals as goal

pub returns-in_err-number : goal.returns-in_err-number
returns-in_err-number c =
    let p = err_from_is_err_and c.from_residual.result c.from_residual.ensures.1 in
    rw (p.1, p.2) (places_fault c.loop-i.found.items c.args.count c.loop-i.i c.loop-i.rest.now (places_at c.args.count c.args.bytes.now) c.loop-i.invariant c.stop_byte.result c.stop_byte.ensures c.loop-i-test.true c.in_err-number.field-0.0 c.in_err-number.ensures)

pub loop-i-preserved : goal.loop-i-preserved
loop-i-preserved c = rw c.in_ok-push.ensures.items (places_more c.loop-i.found.items c.args.count c.loop-i.i c.loop-i.rest.now (places_at c.args.count c.args.bytes.now) c.loop-i.invariant c.stop_byte.result c.stop_byte.ensures c.loop-i-test.true c.in_ok-number.number c.in_ok-number.after.now c.in_ok-number.ensures)

pub returns : goal.returns
returns c = places_done c.loop-i.found.items c.args.count c.loop-i.i c.loop-i.rest.now (places_at c.args.count c.args.bytes.now) c.loop-i.invariant c.loop-i-test.false
