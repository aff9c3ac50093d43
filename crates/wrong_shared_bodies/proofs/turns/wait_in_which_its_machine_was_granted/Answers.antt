use Rattle.std.proofs.Common.{refl, arith}
use Rattle.wrong_shared_bodies.proofs.Turned.{no_turn_meanwhile}
use Rattle.wrong_shared_bodies.proofs.turns.wait_in_which_its_machine_was_granted.Goals as goal

pub returns : goal.returns
returns g c = record {
  wrong = λ waited.
      let first = c.in_ok-first.ensures in
      let second = c.in_ok-second.ensures in
      let ordered = first.waited.ordered in
      let behind = second.waited.ordered in
      let last = first.turn.last in
      let later = second.turn.later in
      no_turn_meanwhile _ _ c.args.seat.now.number c.in_ok-first.first.asked_at c.in_ok-second.second.receipt.position c.args.order c.args.seat.now c.take_turn.new.seat c.take_turn-2.new.seat c.in_ok-first.first
      waited refl first.turn second.later ordered (omega arith);
}
