use Rattle.std.proofs.Common.{◌≡◌, ◌≤◌, length, vec_capacity}
use Rattle.farm_in_turn.specs.Rings.{AreRunsInTurn}
use Rattle.farm_in_turn.proofs.farms.run_each.Given as goal

abbrev pub invariant-loop-ring : goal.invariant-loop-ring
invariant-loop-ring l = record {
  count : length l.rings.items ≡ l.ring;
  room : l.count ≤ vec_capacity l.rings;
  runs : AreRunsInTurn l.settings l.plans l.seed l.rings.items;
}
