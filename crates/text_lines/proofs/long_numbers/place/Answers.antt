use Rattle.std.proofs.lemmas.Result.{err_from_is_err_and}
use Rattle.text_lines.proofs.LongDecimals.{place_read, place_fails}
use Rattle.text_lines.proofs.long_numbers.place.Goals as goal

pub returns-in_err-number : goal.returns-in_err-number
returns-in_err-number c =
    let p = err_from_is_err_and c.from_residual.result c.from_residual.ensures.1 in
    rw (p.1, p.2) (place_fails c.args.stop c.args.bytes.now c.in_err-number.field-0.0 c.in_err-number.ensures)

pub returns : goal.returns
returns c = place_read c.args.stop c.args.bytes.now c.in_ok-number.rest.now c.in_ok-number.number c.in_32_bits.result c.in_ok-number.ensures c.in_32_bits.ensures
