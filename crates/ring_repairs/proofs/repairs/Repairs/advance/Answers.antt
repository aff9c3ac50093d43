use Rattle.std.proofs.Common.{arith}
use Rattle.ring_repairs.proofs.Joining.{advanced_are}
use Rattle.ring_repairs.proofs.repairs.Repairs.advance.Goals as goal

pub invariant_of-self : goal.invariant_of-self
invariant_of-self c =
    let within = c.self.invariant.0.within in
    let counts = c.count.ensures.is in (
      advanced_are c.self.inside.study c.self.inside.done c.if-most-left.trials c.self.inside.passes c.count_trials.new.passes c.self.invariant.0
          c.count_trials.ensures.counted (omega arith),
      c.count_trials.ensures.size,
    )

pub returns-clause-counted : goal.returns-clause-counted
returns-clause-counted c =
    let within = c.self.invariant.0.within in
    let counts = c.count.ensures.is in
    advanced_are c.self.inside.study c.self.inside.done c.if-most-left.trials c.self.inside.passes c.count_trials.new.passes c.self.invariant.0
    c.count_trials.ensures.counted (omega arith)
