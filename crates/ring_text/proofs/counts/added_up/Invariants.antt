use Rattle.std.proofs.Common.{◌≡◌, ◌*◌, ◌≤◌, take}
use Rattle.ring_model.specs.Limits.{event_limit}
use Rattle.ring_text.specs.Report.{totals_of}
use Rattle.ring_text.proofs.counts.added_up.Given as goal

abbrev pub invariant-loop-ring : goal.invariant-loop-ring
invariant-loop-ring l = record {
  totals : l.all ≡ totals_of (take l.ring-index l.rings);
  few : l.all.events ≤ event_limit * l.ring-index;
  granted : l.all.granted ≤ l.all.events;
}
