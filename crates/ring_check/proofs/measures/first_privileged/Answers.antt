use Rattle.std.proofs.Common.{sym, ◌∙◌, arith}
use Rattle.ring_check.proofs.Measuring.{first_at, some_first}
use Rattle.ring_check.proofs.measures.first_privileged.Goals as goal

pub returns-then-is_privileged-clause-value : goal.returns-then-is_privileged-clause-value
returns-then-is_privileged-clause-value c = first_at _ _ c.loop-i-test.true (sym c.is_privileged.ensures ∙ c.if-is_privileged.true) c.loop-i.invariant

pub returns-clause-value : goal.returns-clause-value
returns-clause-value c = absurd (some_first c.args.values.now (omega arith) (λ k l. c.loop-i.invariant k (omega arith)))
