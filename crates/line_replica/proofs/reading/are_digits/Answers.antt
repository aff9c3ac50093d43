use Rattle.std.proofs.Common.{◌∙◌, sym}
use Rattle.line_replica.proofs.Digits.{digits_more, digits_end, digits_all}
use Rattle.line_replica.proofs.reading.are_digits.Goals as goal

pub returns-then-not-one : goal.returns-then-not-one
returns-then-not-one c = sym (digits_end c.args.bytes.now c.loop-i.i c.loop-i-test.true (sym c.is_digit-one.ensures ∙ c.if-not-one.true)) ∙ c.loop-i.invariant

pub loop-i-preserved : goal.loop-i-preserved
loop-i-preserved c = sym (digits_more c.args.bytes.now c.loop-i.i c.loop-i-test.true (sym c.is_digit-one.ensures ∙ c.if-not-one.false)) ∙ c.loop-i.invariant

pub returns : goal.returns
returns c = sym (digits_all c.args.bytes.now c.loop-i.i c.loop-i-test.false) ∙ c.loop-i.invariant
