use Rattle.held_locks.proofs.Answered.{one_answer_each}
use Rattle.held_locks.proofs.laws.one_answer_each.Goals as goal

pub returns : goal.returns
returns c = one_answer_each
