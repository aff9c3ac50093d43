use Rattle.std.proofs.Common.{◌≡◌}
use mathlib.Core.List.{IsPrefix}
use Rattle.ring_turns.specs.Turning.{HasPassedOn}
use Rattle.ring_turns.proofs.turns.await_turn.Given as goal

abbrev pub invariant-loop : goal.invariant-loop
invariant-loop g l = record {
  runs : (goal.iterator-loop g).can_next l.iterator' × (goal.iterator-loop g).is_finite l.iterator';
  number : l.seat.number ≡ l.initial.seat.number;
  passed : HasPassedOn l.initial.seat.number l.initial.seat.log l.seat.log;
  later : IsPrefix l.initial.seat.seen l.seat.seen;
}
