use Rattle.std.proofs.Common.{rules}
use Rattle.held_locks.proofs.marks.carry.Goals as goal

pub returns-clause-made : goal.returns-clause-made
returns-clause-made c = search rules
