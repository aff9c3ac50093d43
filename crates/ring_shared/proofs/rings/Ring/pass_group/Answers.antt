use Rattle.std.proofs.Common.{sym, ◌∙◌}
use Rattle.ring_shared.proofs.rings.Ring.pass_group.Goals as goal

pub returns-clause-whole : goal.returns-clause-whole
returns-clause-whole g c = λ e. c.pass_group-result.ensures.refused.whole (e ∙ sym c.pass_group-result.ensures.size)

pub returns-clause-whole_only : goal.returns-clause-whole_only
returns-clause-whole_only g c = λ e. c.pass_group-result.ensures.refused.whole_only e ∙ c.pass_group-result.ensures.size
