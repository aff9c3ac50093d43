use Rattle.std.proofs.Common.{◌≡◌, ◌≤◌, ◌↔◌, take, drop}
use Rattle.ring_logs.specs.Fronts.{ArePlaced, receipt_count}
use Rattle.ring_logs.proofs.placing.follow.Given as goal

abbrev pub invariant-loop-place : goal.invariant-loop-place
invariant-loop-place l =
    (l.receipts ≤ l.place) × (l.receipts ≡ receipt_count (take l.place l.log))
    × (ArePlaced l.history l.seat l.front (drop l.place l.log) ↔ ArePlaced l.history l.seat l.fn.from.front (drop l.fn.from.entry l.log))
