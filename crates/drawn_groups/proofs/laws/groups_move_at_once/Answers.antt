use Rattle.drawn_groups.proofs.Choices.{groups_can_move, groups_move}
use Rattle.drawn_groups.proofs.laws.groups_move_at_once.Goals as goal

pub returns-clause-able : goal.returns-clause-able
returns-clause-able c = groups_can_move

pub returns-clause-once : goal.returns-clause-once
returns-clause-once c = groups_move
