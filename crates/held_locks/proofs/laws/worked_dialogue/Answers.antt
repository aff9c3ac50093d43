use Rattle.std.proofs.Common.{refl}
use Rattle.held_locks.proofs.laws.worked_dialogue.Goals as goal

pub returns-clause-answers : goal.returns-clause-answers
returns-clause-answers c = refl

pub returns-clause-marks : goal.returns-clause-marks
returns-clause-marks c = refl
