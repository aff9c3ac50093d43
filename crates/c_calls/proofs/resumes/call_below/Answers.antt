use Rattle.std.proofs.Common.{ℕ, ◌≤◌, ◌<◌, List, length, refl, subst, arith}
use Rattle.std.specs.List.{All}
use Rattle.std.proofs.lemmas.List.{take_all}
use Rattle.std.proofs.lemmas.List.Elements.{All-more}
use Rattle.saved_history.specs.declared.saved.SavedEvent.{SavedEvent}
use Rattle.ring_check.specs.Table.{event_of}
use Rattle.c_calls.proofs.resumes.call_below.Goals as goal

pub loop-event-preserved : goal.loop-event-preserved
loop-event-preserved c =
    All-more (λ (e : SavedEvent). (event_of e).seat < c.args.seats) c.args.events.now c.loop-event.event-index _ c.loop-event-test.true c.loop-event.invariant (subst (λ (n : ℕ). n < c.args.seats) c.seat_of.ensures c.if-seat_of-seats.false)

pub returns : goal.returns
returns c =
    let past = c.loop-event-test.false in
    let end = c.loop-event.auto.event-index-end in
    let all : length c.args.events.now ≤ c.loop-event.event-index = omega (arith, past, end) in
    (λ t. subst (λ (u : List SavedEvent). All (λ (e : SavedEvent). (event_of e).seat < c.args.seats) u) (take_all c.loop-event.event-index c.args.events.now all) c.loop-event.invariant, λ a. refl)
