use Rattle.std.proofs.Common.{◌≡◌, ◌≤◌, arith}
use Rattle.ring_repairs.specs.Limits.{trial_limit}
use Rattle.ring_repairs.proofs.Numbering.{trials_within}
use Rattle.ring_repairs.proofs.studies.Study.new.Goals as goal

pub returns-then-trials-gt-TRIAL_LIMIT-clause-exact : goal.returns-then-trials-gt-TRIAL_LIMIT-clause-exact
returns-then-trials-gt-TRIAL_LIMIT-clause-exact c = (
  λ e. absurd (cc e),
  λ is.
      let size = is.size in
      let two = size.machines in
      let values = size.values in
      let few = trials_within c.args.trials trial_limit c.args.start c.args.size (omega arith) is.most in
      let many = c.if-trials-gt-TRIAL_LIMIT.true in
      absurd (omega arith),
)
