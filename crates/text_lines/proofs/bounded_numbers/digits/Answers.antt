use Rattle.std.proofs.Common.{◌+◌, ◌<◌, ◌≤◌, get_or, sym, ◌∙◌, arith}
use Rattle.std.proofs.lemmas.List.{take_rest}
use Rattle.text_lines.proofs.Steps.{digits_end, digits_more, digits_other, digits_short}
use Rattle.text_lines.proofs.Decimals.{Grows, grows_at, grows_no}
use Rattle.text_lines.proofs.bounded_numbers.digits.Goals as goal
use Rattle.text_lines.proofs.bounded_numbers.digits.Goals.{then-value-eq0-via-then-value-eq0, then-value-eq0-via-else-value-eq0+then-b-lt48, then-value-eq0-via-else-value-eq0+else-b-lt48+then-b-gt57}

pub returns-then-b-stop-clause-gives : goal.returns-then-b-stop-clause-gives
returns-then-b-stop-clause-gives c = rw take_rest (sym c.loop-i.invariant.0 ∙ digits_end (c.args.max + 1) c.args.stop c.loop-i.value c.args.bytes.now c.loop-i.i c.loop-i-test.true c.if-b-stop.true)

pub returns-then-value-eq0-clause-gives : goal.returns-then-value-eq0-clause-gives
returns-then-value-eq0-clause-gives c =
    sym c.loop-i.invariant.0 ∙ digits_other (c.args.max + 1) c.args.stop c.loop-i.value c.args.bytes.now c.loop-i.i c.loop-i-test.true c.if-b-stop.false (grows_no (c.args.max + 1) c.loop-i.value (get_or c.args.bytes.now c.loop-i.i 0)
    (λ g.
    let some : 0 < c.loop-i.value = g.some in
    let low : 48 ≤ get_or c.args.bytes.now c.loop-i.i 0 = g.digit.low in
    let high : get_or c.args.bytes.now c.loop-i.i 0 ≤ 57 = g.digit.high in
    elim c.then-value-eq0.branch [ then-value-eq0-via-then-value-eq0 w ↦ omega arith | then-value-eq0-via-else-value-eq0+then-b-lt48 w ↦ omega arith | then-value-eq0-via-else-value-eq0+else-b-lt48+then-b-gt57 w ↦ omega arith ]))

pub returns-then-max-digit-clause-gives : goal.returns-then-max-digit-clause-gives
returns-then-max-digit-clause-gives c =
    sym c.loop-i.invariant.0 ∙ digits_other (c.args.max + 1) c.args.stop c.loop-i.value c.args.bytes.now c.loop-i.i c.loop-i-test.true c.if-b-stop.false (grows_no (c.args.max + 1) c.loop-i.value (get_or c.args.bytes.now c.loop-i.i 0)
    (λ g. let below = g.below in omega (arith, below)))

pub loop-i-preserved : goal.loop-i-preserved
loop-i-preserved c =
    let g : Grows (c.args.max + 1) c.loop-i.value (get_or c.args.bytes.now c.loop-i.i 0) = record { some = omega arith; digit = record { low = omega arith; high = omega arith }; below = omega arith } in
    (digits_more (c.args.max + 1) c.args.stop c.loop-i.value c.args.bytes.now c.loop-i.i c.loop-i-test.true c.if-b-stop.false (grows_at _ _ _ g) ∙ c.loop-i.invariant.0, omega arith)

pub returns-clause-gives : goal.returns-clause-gives
returns-clause-gives c = sym c.loop-i.invariant.0 ∙ digits_short (c.args.max + 1) c.args.stop c.loop-i.value c.args.bytes.now c.loop-i.i c.loop-i-test.false
