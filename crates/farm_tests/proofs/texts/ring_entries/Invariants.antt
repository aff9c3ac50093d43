use Rattle.std.proofs.Common.{◌≡◌, take, sum_by}
use Rattle.ring_text.specs.Report.{entries_of}
use Rattle.farm_tests.proofs.texts.ring_entries.Given as goal

abbrev pub invariant-loop-ring : goal.invariant-loop-ring
invariant-loop-ring l = l.all ≡ sum_by (λ r. entries_of r.logs.items) (take l.ring-index l.rings)
