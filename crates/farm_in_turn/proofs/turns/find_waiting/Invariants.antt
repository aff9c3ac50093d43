use Rattle.std.proofs.Common.{◌≡◌, ◌≤◌, ◌++◌, drop, vec_len, vec_capacity}
use Rattle.farm_in_turn.specs.Turns.{waiting_from, waiting}
use Rattle.farm_in_turn.proofs.turns.find_waiting.Given as goal

abbrev pub invariant-loop-seat : goal.invariant-loop-seat
invariant-loop-seat l = record {
  found : l.seats.items ++ waiting_from l.seat (drop l.seat l.parts) ≡ waiting l.parts;
  few : vec_len l.seats ≤ l.seat;
  room : vec_capacity l.seats ≡ vec_capacity l.fn.seats;
}
