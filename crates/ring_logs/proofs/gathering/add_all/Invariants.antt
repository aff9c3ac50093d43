use Rattle.std.proofs.Common.{◌≡◌, ◌++◌, take}
use Rattle.ring_logs.specs.Fronts.{surveys_of}
use Rattle.ring_logs.proofs.gathering.add_all.Given as goal

abbrev pub invariant-loop-entry : goal.invariant-loop-entry
invariant-loop-entry l = l.surveys.items ≡ l.initial.surveys.items ++ surveys_of (take l.entry-index l.log)
