use Rattle.std.proofs.Common.{◌≡◌, arith}
use Rattle.wrong_shared_bodies.proofs.Turned.{one_place}
use Rattle.wrong_shared_bodies.proofs.turns.turn_from_another_place.Goals as goal
use Rattle.wrong_shared_bodies.proofs.turns.turn_from_another_place.Goals.{then-turn-eq0, else-turn-eq0}

pub returns : goal.returns
returns g c = record {
  wrong = λ p.
      let same : c.in_ok-turn.turn.asked_at ≡ c.if-turn-eq0.result = one_place _ _ _ _ _ _ _ c.in_ok-turn.ensures.turn p in
      elim c.if-turn-eq0.branch [
        | then-turn-eq0 w ↦ let is = w.if-turn-eq0 in let told = w.result-is in omega arith
        | else-turn-eq0 w ↦ let is = w.if-turn-eq0 in let told = w.result-is in omega arith
      ];
}
