use Rattle.std.proofs.Common.{◌≤◌, ◌<◌, List, length, refl, subst, arith}
use Rattle.std.proofs.lemmas.List.{take_all}
use Rattle.std.proofs.lemmas.List.Elements.{All-more}
use Rattle.ring_model.specs.declared.events.Event.{Event}
use Rattle.ring_logs.specs.Seats.{AreOfSeats}
use Rattle.one_thread_ring.proofs.resuming.events.are_seated.Goals as goal

pub loop-event-preserved : goal.loop-event-preserved
loop-event-preserved c =
    All-more (λ (e : Event). e.seat < c.args.seats) c.args.events.now c.loop-event.event-index _ c.loop-event-test.true c.loop-event.invariant c.if-event-seats.false

pub returns : goal.returns
returns c =
    let past = c.loop-event-test.false in
    let end = c.loop-event.auto.event-index-end in
    let all : length c.args.events.now ≤ c.loop-event.event-index = omega (arith, past, end) in
    (λ t. subst (λ (u : List Event). AreOfSeats c.args.seats u) (take_all c.loop-event.event-index c.args.events.now all) c.loop-event.invariant, λ a. refl)
