use Rattle.std.proofs.Common.{ℕ, ap}
use Rattle.ring_model.specs.declared.events.Survey.{Survey}
use Rattle.held_locks.specs.declared.answers.HoldEnd.{HoldEnd}
use Rattle.held_locks.proofs.marks.end.Goals as goal

abbrev by : ℕ → Survey → HoldEnd
by seat s = record { seat = seat; survey = s }

pub returns-clause-is : goal.returns-clause-is
returns-clause-is c = ap (λ (s : Survey). by c.args.seat s) c.survey_settled.ensures
