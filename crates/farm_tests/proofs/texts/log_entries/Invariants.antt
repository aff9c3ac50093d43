use Rattle.std.proofs.Common.{◌≡◌, take}
use Rattle.ring_text.specs.Report.{entries_of}
use Rattle.farm_tests.proofs.texts.log_entries.Given as goal

abbrev pub invariant-loop-log : goal.invariant-loop-log
invariant-loop-log l = l.all ≡ entries_of (take l.log-index l.logs)
