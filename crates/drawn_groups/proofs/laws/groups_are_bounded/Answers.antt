use Rattle.drawn_groups.proofs.Choices.{groups_settle, groups_are_bounded}
use Rattle.drawn_groups.proofs.laws.groups_are_bounded.Goals as goal

pub returns-clause-settle : goal.returns-clause-settle
returns-clause-settle c = groups_settle

pub returns-clause-bounded : goal.returns-clause-bounded
returns-clause-bounded c = groups_are_bounded
