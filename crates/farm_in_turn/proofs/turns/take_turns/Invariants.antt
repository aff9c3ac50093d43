use Rattle.std.proofs.Common.{◌≡◌, ◌≤◌, length, vec_capacity}
use Rattle.ring_model.specs.Limits.{seat_limit}
use Rattle.ring_model.specs.Resources.{till}
use Rattle.one_thread_ring.specs.Rings.{IsOneThreadRing}
use Rattle.farm_in_turn.specs.Turns.{count_left, turns}
use Rattle.farm_in_turn.specs.InTurn.{after_turns}
use Rattle.farm_in_turn.specs.Rings.{so_far}
use Rattle.farm_in_turn.proofs.turns.take_turns.Given as goal

abbrev pub invariant-loop-seat : goal.invariant-loop-seat
invariant-loop-seat l = record {
  count : length l.parts.items ≤ seat_limit;
  room : length l.parts.items ≤ vec_capacity l.seats;
  ring : IsOneThreadRing till 0 l.ring;
  start : l.ring.book.start ≡ l.fn.ring.book.start;
  done : after_turns l.fn.ring.book.start (so_far l.ring) (turns l.words l.parts.items) ≡ after_turns l.fn.ring.book.start (so_far l.fn.ring) (turns l.fn.words l.fn.parts.items);
}

abbrev pub decreases-loop-seat : goal.decreases-loop-seat
decreases-loop-seat l = count_left l.parts.items
