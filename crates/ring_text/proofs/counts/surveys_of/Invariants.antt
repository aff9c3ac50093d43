use Rattle.std.proofs.Common.{◌≡◌, take}
use Rattle.ring_text.specs.Report.{surveys_in}
use Rattle.ring_text.proofs.counts.surveys_of.Given as goal

abbrev pub invariant-loop-log : goal.invariant-loop-log
invariant-loop-log l = l.all ≡ surveys_in (take l.log-index l.logs)
