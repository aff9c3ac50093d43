use Rattle.std.proofs.Common.{◌≡◌, ℕ, [], length, get_or, ap, sym, ◌∙◌, arith}
use Rattle.std.proofs.lemmas.Bool.{eqb-true}
use Rattle.std.proofs.lemmas.List.{nil_from_length, get_or_read}
use Rattle.ring_repairs.specs.Draws.{draw}
use Rattle.farm_in_turn.specs.Turns.{waiting}
use Rattle.farm_in_turn.proofs.Waiting.{none_left, waiting_few, seat_is}
use Rattle.farm_in_turn.proofs.turns.draw_seat.Goals as goal

pub returns-then-is_empty-clause-seat : goal.returns-then-is_empty-clause-seat
returns-then-is_empty-clause-seat c =
    let is = c.find_waiting.ensures.seats in
    let none = eqb-true _ 0 (sym c.is_empty.ensures ∙ c.if-is_empty.true) in
    let nothing : c.find_waiting.new.seats.items ≡ [] = nil_from_length c.find_waiting.new.seats.items (omega (arith, c.find_waiting.new.seats.ok.0)) in
    none_left 0 c.args.parts.now (sym is ∙ nothing)

pub overflow_cast-len : goal.overflow_cast-len
overflow_cast-len c =
    let is = ap length c.find_waiting.ensures.seats in
    let few = waiting_few 0 c.args.parts.now in
    let seats = c.requires.count in
    omega (arith, c.find_waiting.new.seats.ok.0, c.len.ensures)

pub returns-clause-seat : goal.returns-clause-seat
returns-clause-seat c =
    let is = c.find_waiting.ensures.seats in
    let long = ap length is in
    let size : c.len.result ≡ length (waiting c.args.parts.now) = omega (arith, c.find_waiting.new.seats.ok.0, c.len.ensures) in
    let below = c.draw-place.ensures.below in
    let at = get_or_read c.find_waiting.new.seats.items c.draw-place.result c.index.result.now (omega arith) c.index.ensures 0 in
    seat_is c.args.words.now c.draw-place.new.words c.args.parts.now c.draw-place.result c.index.result.now
    (c.draw-place.ensures.drawn ∙ ap (λ (m : ℕ). draw m c.args.words.now) size) (omega arith) (at ∙ ap (λ xs. get_or xs c.draw-place.result 0) is)
