use Rattle.std.proofs.Common.{◌≡◌, ◌<◌, ◌≤◌, ◌∙◌, length, get_or, ap, arith, rules}
use Rattle.saved_history.specs.declared.saved.SavedEvent.{SavedEvent}
use Rattle.ring_check.specs.Table.{event_of}
use Rattle.ring_check.specs.Gauges.{ring_of}
use Rattle.history_steps.specs.Steps.{next_ring}
use Rattle.saved_history.specs.Content.{block_of}
use Rattle.history_steps.proofs.Places.{ring_more, ring_stays, named, stepped}
use Rattle.history_steps.proofs.steps.step_on.Goals as goal

pub call-requires-clause-k : goal.call-requires-clause-k
call-requires-clause-k c = c.requires.k

pub call-requires-clause-gauge : goal.call-requires-clause-gauge
call-requires-clause-gauge c = c.requires.gauge

pub returns-then-place-len : goal.returns-then-place-len
returns-then-place-len c =
    let lt : c.args.place < length c.args.ring.now.events.items = omega (arith, c.len.ensures, c.if-place-len.true) in
    let is : c.index.result.now ≡ get_or c.args.ring.now.events.items c.args.place c.index.result.now = search rules in
    let on = c.call.ensures.ring ∙ ap (λ (e : SavedEvent). next_ring (ring_of c.args.gauge.now) (event_of e).op) is in
    stepped c.args.ring.now _ _ c.args.gauge.now c.call.new.gauge (event_of c.index.result.now).op c.requires c.call.ensures.gauge c.call.ensures.ring
    (ring_more (block_of c.args.ring.now) c.args.place c.index.result.now _ _ lt c.requires.same on)

pub returns-else-place-len : goal.returns-else-place-len
returns-else-place-len c =
    let le : length c.args.ring.now.events.items ≤ c.args.place = omega (arith, c.len.ensures, c.if-place-len.false) in
    named c.args.ring.now _ _ c.args.gauge.now (ring_stays (block_of c.args.ring.now) c.args.place le) c.requires
