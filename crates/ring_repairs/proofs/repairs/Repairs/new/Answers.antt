use Rattle.std.proofs.Common.{refl}
use Rattle.ring_model.specs.RepairLaws.{longest_repair}
use Rattle.ring_repairs.proofs.TrialFacts.{none_are}
use Rattle.ring_repairs.proofs.repairs.Repairs.new.Goals as goal

pub invariant_of-result : goal.invariant_of-result
invariant_of-result c = (
  none_are c.args.study (longest_repair c.args.study.size.n) c.in_ok-passes.passes c.count.ensures.study c.in_ok-passes.ensures.none refl,
  c.in_ok-passes.ensures.size,
)

pub returns-clause-counted : goal.returns-clause-counted
returns-clause-counted c = none_are c.args.study (longest_repair c.args.study.size.n) c.in_ok-passes.passes c.count.ensures.study c.in_ok-passes.ensures.none refl
