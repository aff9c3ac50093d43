use Rattle.std.proofs.Common.{◌≡◌, ◌^◌, ◌≤◌}
use Rattle.ring_repairs.specs.Limits.{state_limit}
use Rattle.ring_repairs.proofs.starts.power_within.Given as goal

abbrev pub invariant-loop : goal.invariant-loop
invariant-loop l = record {
  is : l.power ≡ l.base ^ l.counter;
  few : l.power ≤ state_limit;
}
