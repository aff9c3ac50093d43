use Rattle.std.proofs.Common.{◌≡◌, ◌*◌, ◌≤◌, ◌++◌, length, take, drop}
use Rattle.text_lines.specs.Writing.{Wrote}
use Rattle.ring_model.specs.Limits.{event_limit}
use Rattle.ring_text.specs.Report.{total_line, rings_from, report, totals_of}
use Rattle.ring_text.proofs.farm_report.write_report.Given as goal

abbrev pub invariant-loop-place : goal.invariant-loop-place
invariant-loop-place g l = record {
  written : Wrote (g.W.Write.contents l.initial.out) (g.W.Write.contents l.out) (report l.outcome) (rings_from l.place (drop l.place l.outcome.rings.items) ++ total_line (length l.outcome.rings.items) (totals_of l.outcome.rings.items));
  totals : l.totals ≡ totals_of (take l.place l.outcome.rings.items);
  few : l.totals.events ≤ event_limit * l.place;
  granted : l.totals.granted ≤ l.totals.events;
}
