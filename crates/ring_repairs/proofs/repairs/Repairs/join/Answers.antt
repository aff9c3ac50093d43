use Rattle.std.proofs.Common.{subst, sym}
use Rattle.ring_repairs.specs.Parts.{IsPart}
use Rattle.ring_repairs.specs.Studies.{RepairsData}
use Rattle.ring_repairs.proofs.Joining.{joined_are}
use Rattle.ring_repairs.proofs.repairs.Repairs.join.Goals as goal

pub invariant_of-self : goal.invariant_of-self
invariant_of-self c =
    let is = subst (λ (r : RepairsData). IsPart r.study r.done c.args.trials c.args.part.now) (sym c.self.view_is) c.requires in (
      joined_are c.self.inside.study c.self.inside.done c.args.trials c.self.inside.passes c.args.part.now c.join.new.self c.self.invariant.0 is c.join.ensures.joined,
      c.self.invariant.1,
    )

pub returns-clause-counted : goal.returns-clause-counted
returns-clause-counted c =
    let is = subst (λ (r : RepairsData). IsPart r.study r.done c.args.trials c.args.part.now) (sym c.self.view_is) c.requires in
    joined_are c.self.inside.study c.self.inside.done c.args.trials c.self.inside.passes c.args.part.now c.join.new.self c.self.invariant.0 is c.join.ensures.joined
