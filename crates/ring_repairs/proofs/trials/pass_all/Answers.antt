use Rattle.std.proofs.Common.{◌≡◌, ◌∙◌}
use Rattle.ring_repairs.proofs.TrialFacts.{one_by_one, in_groups}
use Rattle.ring_repairs.proofs.trials.pass_all.Goals as goal

pub returns-in-Groups-clause-passes : goal.returns-in-Groups-clause-passes
returns-in-Groups-clause-passes c =
    c.repair_in_groups.ensures.passes
    ∙ in_groups c.args.daemon c.args.most c.args.memory.now c.args.ring.now c.in-Groups.is c.params.ensures.ring.ring c.requires.most

pub returns-in_default-clause-passes : goal.returns-in_default-clause-passes
returns-in_default-clause-passes c =
    c.repair.ensures.passes ∙ one_by_one c.args.daemon c.args.most c.args.memory.now c.args.ring.now c.in_default.not-Groups
