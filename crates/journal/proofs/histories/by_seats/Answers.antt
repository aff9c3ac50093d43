use Rattle.std.proofs.Common.{◌≡◌, ◌++◌, List, ap, ◌∙◌}
use Rattle.std.specs.Prelude.{not}
use Rattle.std.specs.List.{filter}
use Rattle.ring_model.specs.Limits.{seat_limit}
use Rattle.saved_history.specs.declared.saved.SavedSurvey.{SavedSurvey}
use Rattle.journal.specs.ContentAfter.{is_of, by_seats}
use Rattle.journal.proofs.Seatings.{seat_more, seats_all}
use Rattle.journal.proofs.histories.by_seats.Goals as goal

pub loop-seat-preserved : goal.loop-seat-preserved
loop-seat-preserved c =
    let seat = c.loop-seat.seat in
    let found : c.extend_from_slice.new.self.items ≡ c.loop-seat.found.items ++ filter (is_of seat) c.loop-seat.rest.items =
    c.in_ok-extend_from_slice.ensures.items ∙ ap (λ (u : List SavedSurvey). c.loop-seat.found.items ++ u) (c.deref-in-loop-seat.ensures.value ∙ c.in_ok-next.ensures ∙ ap (filter (is_of seat)) c.deref.ensures.value) in
    let rest : c.in_ok-rest-2.rest.items ≡ filter (λ s. not (is_of seat s)) c.loop-seat.rest.items =
    c.in_ok-rest-2.ensures ∙ ap (filter (λ s. not (is_of seat s))) c.deref-in-loop-seat-2.ensures.value in
    rw (found, rest) (seat_more seat seat_limit c.loop-seat.found.items c.loop-seat.rest.items (by_seats 0 seat_limit c.args.surveys.now) c.loop-seat-test.true c.loop-seat.invariant)

pub returns : goal.returns
returns c =
    c.in_ok-extend_from_slice-2.ensures.items
    ∙ ap (λ (u : List SavedSurvey). c.loop-seat.found.items ++ u) c.deref-2.ensures.value
    ∙ seats_all c.loop-seat.seat seat_limit c.loop-seat.found.items c.loop-seat.rest.items (by_seats 0 seat_limit c.args.surveys.now) c.loop-seat-test.false c.loop-seat.invariant
