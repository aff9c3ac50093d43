use Rattle.std.proofs.Common.{◌∙◌, ◌+◌, ◌-◌, ◌*◌, get_or, refl, sym, ap}
use Rattle.std.proofs.lemmas.List.{take_rest}
use Rattle.text_lines.proofs.LongDecimals.{in_some, digits_end, digits_more, digits_other, digits_short, as_order}
use Rattle.text_lines.proofs.long_numbers.long_digits.Goals as goal

pub loop-i-init : goal.loop-i-init
loop-i-init c = record { all = c.args.first; kept = sym (in_some c.args.first c.ranges.first.fits); rest = refl }

pub returns-then-b-stop : goal.returns-then-b-stop
returns-then-b-stop c =
    let i = c.loop-i.invariant in
    rw (take_rest, i.kept) (ap as_order (sym i.rest ∙ digits_end c.args.stop i.all c.args.bytes.now c.loop-i.i c.loop-i-test.true c.if-b-stop.true))

pub returns-in_default : goal.returns-in_default
returns-in_default c =
    let i = c.loop-i.invariant in
    ap as_order (sym i.rest ∙ digits_other c.args.stop i.all c.args.bytes.now c.loop-i.i c.loop-i-test.true c.if-b-stop.false (c.in_default.ensures.ends i.all i.kept refl))

pub loop-i-preserved : goal.loop-i-preserved
loop-i-preserved c =
    let i = c.loop-i.invariant in
    let g = c.in-Some.ensures.more i.all i.kept in
    record {
      all = i.all * 10 + (get_or c.args.bytes.now c.loop-i.i 0 - 48);
      kept = g.1;
      rest = sym (digits_more c.args.stop i.all c.args.bytes.now c.loop-i.i c.loop-i-test.true c.if-b-stop.false g.0) ∙ i.rest;
    }

pub returns : goal.returns
returns c = let i = c.loop-i.invariant in ap as_order (sym i.rest ∙ digits_short c.args.stop i.all c.args.bytes.now c.loop-i.i c.loop-i-test.false)
