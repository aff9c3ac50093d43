use Rattle.std.proofs.Common.{◌∙◌, ℕ, ◌+◌, drop, sym, ap}
use Rattle.std.proofs.lemmas.List.{take_rest}
use Rattle.text_lines.specs.LongNumbers.{long_digits_at}
use Rattle.text_lines.proofs.LongDecimals.{in_some, digits_end, digits_more, digits_short, as_order}
use Rattle.text_lines.proofs.long_numbers.digits.Goals as goal

pub returns-then-b-stop : goal.returns-then-b-stop
returns-then-b-stop c = rw (take_rest, sym (in_some c.loop-i.number c.loop-i.invariant.1)) (ap as_order (sym c.loop-i.invariant.0 ∙ digits_end c.args.stop c.loop-i.number c.args.bytes.now c.loop-i.i c.loop-i-test.true c.if-b-stop.true))

pub loop-i-preserved : goal.loop-i-preserved
loop-i-preserved c =
    let is = ap (λ (n : ℕ). long_digits_at c.args.stop n (drop (c.loop-i.i + 1) c.args.bytes.now)) c.in-Some.ensures.1 in
    (is ∙ (sym (digits_more c.args.stop c.loop-i.number c.args.bytes.now c.loop-i.i c.loop-i-test.true c.if-b-stop.false c.in-Some.ensures.0) ∙ c.loop-i.invariant.0), c.in-Some.ensures.2)

pub returns : goal.returns
returns c = ap as_order (sym c.loop-i.invariant.0 ∙ digits_short c.args.stop c.loop-i.number c.args.bytes.now c.loop-i.i c.loop-i-test.false)
