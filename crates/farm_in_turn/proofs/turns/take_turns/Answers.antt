use Rattle.std.proofs.Common.{◌≡◌, List, ◌∷◌, [], set, ap, sym, ◌∙◌, refl, arith}
use Rattle.std.proofs.lemmas.List.{length-set, get_or_read}
use Rattle.ring_model.specs.Ring.{Ring}
use Rattle.farm_in_turn.specs.Turns.{Turn, turns, left_of}
use Rattle.farm_in_turn.specs.InTurn.{Run, after_turns, with_action}
use Rattle.farm_in_turn.specs.Rings.{so_far}
use Rattle.farm_in_turn.proofs.Waiting.{turn_taken, turns_none}
use Rattle.farm_in_turn.proofs.turns.take_turns.Goals as goal

-- the run after one turn and others, and after none
after_more : (start : Ring) (run : Run) (t : Turn) (ts : List Turn) → after_turns start run (t ∷ ts) ≡ after_turns start (with_action start run t.seat t.action) ts
unfolding after_turns
after_more start run t ts = refl

after_none : (start : Ring) (run : Run) → after_turns start run [] ≡ run
unfolding after_turns
after_none start run = refl

pub loop-seat-preserved-in-Continue-branch-2 : goal.loop-seat-preserved-in-Continue-branch-2
loop-seat-preserved-in-Continue-branch-2 c =
    let i = c.index_mut.ensures.value in
    let t = c.in-Some-take.ensures in
    let s = rw c.as_slice.ensures.value at c.in-Some.ensures.seat in
    let own : left_of c.loop-seat.parts.items c.in-Some.seat ≡ c.in-Some-take.action ∷ c.take.new.self = sym (get_or_read c.loop-seat.parts.items c.in-Some.seat c.index_mut.result.now s.1 i []) ∙ t in
    let left : List (List _) = set c.loop-seat.parts.items c.in-Some.seat c.take.new.self in
    let turn : Turn = record { seat = c.in-Some.seat; action = c.in-Some-take.action } in
    let taken = turn_taken c.loop-seat.words c.draw_seat.new.words c.loop-seat.parts.items c.in-Some.seat c.in-Some-take.action c.take.new.self s.0 s.1 own in
    let room = c.in-Some.ensures.room in
    let start : Ring = c.args.ring.now.book.start in
    let was : c.loop-seat.ring.book.start ≡ start = c.loop-seat.invariant.start in
    let made : so_far c.act.new.ring ≡ with_action start (so_far c.loop-seat.ring) c.in-Some.seat c.in-Some-take.action =
    c.in_ok-act.ensures.done ∙ ap (λ (r : Ring). with_action r (so_far c.loop-seat.ring) c.in-Some.seat c.in-Some-take.action) was in
    record {
      count = rw length-set (c.loop-seat.invariant.count);
      room = rw length-set (let fits = c.loop-seat.invariant.room in omega arith);
      ring = c.act.ensures.ring;
      start = c.in_ok-act.ensures.start ∙ was;
      done = ap (λ (r : Run). after_turns start r (turns c.draw_seat.new.words left)) made
          ∙ (sym (after_more start (so_far c.loop-seat.ring) turn (turns c.draw_seat.new.words left))
          ∙ (ap (after_turns start (so_far c.loop-seat.ring)) (sym taken.0) ∙ c.loop-seat.invariant.done));
    }

pub returns-clause-done : goal.returns-clause-done
returns-clause-done c =
    let start : Ring = c.args.ring.now.book.start in
    let d = rw c.as_slice.ensures.value at c.in_default.ensures.seat in
    sym (after_none start (so_far c.loop-seat.ring))
    ∙ (ap (after_turns start (so_far c.loop-seat.ring)) (sym (turns_none c.loop-seat.words c.loop-seat.parts.items d)) ∙ c.loop-seat.invariant.done)
