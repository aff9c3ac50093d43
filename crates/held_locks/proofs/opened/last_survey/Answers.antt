use Rattle.std.proofs.Common.{rules}
use Rattle.held_locks.proofs.OpenHolds.{last_is, none_is}
use Rattle.held_locks.proofs.opened.last_survey.Goals as goal

pub returns-then-is_empty : goal.returns-then-is_empty
returns-then-is_empty c = λ h. none_is h c.args.client.now c.surveys-surveys.result.now c.surveys-surveys.ensures (search rules)

pub returns : goal.returns
returns c = λ h. last_is h c.args.client.now c.surveys-surveys.result.now _ c.surveys-surveys.ensures (search rules)
