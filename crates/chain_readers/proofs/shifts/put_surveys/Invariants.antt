use Rattle.std.proofs.Common.{◌≡◌, ◌++◌, map, take}
use Rattle.chain_readers.specs.Joining.{shifted_survey}
use Rattle.chain_readers.proofs.shifts.put_surveys.Given as goal

abbrev pub invariant-loop-survey : goal.invariant-loop-survey
invariant-loop-survey l = l.surveys.items ≡ l.initial.surveys.items ++ map (shifted_survey l.base l.events) (take l.survey-index l.more)
