use Rattle.std.proofs.Common.{◌≡◌, ◌++◌, ◌∙◌, ◌<◌, ◌≤◌, length, get_or, ap, arith, rules}
use Rattle.ring_model.specs.Ring.{Ring, is_settled}
use Rattle.saved_history.specs.declared.saved.SavedEvent.{SavedEvent}
use Rattle.saved_history.specs.Content.{block_of}
use Rattle.ring_check.specs.Gauges.{ring_of}
use Rattle.ring_check.specs.Table.{event_of}
use Rattle.history_repairs.specs.Walks.{state_at, ending, left_open, after_event}
use Rattle.history_repairs.proofs.Walking.{found_more, found_all}
use Rattle.history_repairs.proofs.repairs.repairs_of.Goals as goal

pub loop-place-preserved : goal.loop-place-preserved
loop-place-preserved c =
    let b = block_of c.args.ring.now in
    let events = c.args.ring.now.events.items in
    let p = c.loop-place.place in
    let r = (state_at b p).ring in
    let lt : p < length events = omega (arith, c.len-place-end.ensures, c.loop-place-test.true) in
    let is : c.index.result.now ≡ get_or events p c.index.result.now = search rules in
    let here : ring_of c.loop-place.gauge ≡ r = c.loop-place.invariant.ring.same in
    let closed : c.close.new.found.items ≡ c.loop-place.found.items ++ ending c.loop-place.current (is_settled r.values) =
    c.in_ok-current.ensures.found ∙ ap (λ (x : Ring). c.loop-place.found.items ++ ending c.loop-place.current (is_settled x.values)) here in
    let left : c.in_ok-current.current ≡ left_open c.loop-place.current (is_settled r.values) =
    c.in_ok-current.ensures.left ∙ ap (λ (x : Ring). left_open c.loop-place.current (is_settled x.values)) here in
    let after : c.after_event-current.result ≡ after_event c.in_ok-current.current (event_of (get_or events p c.index.result.now)) (ring_of c.step_on.new.gauge) =
    c.after_event-current.ensures.is ∙ ap (λ (e : SavedEvent). after_event c.in_ok-current.current (event_of e) (ring_of c.step_on.new.gauge)) is in
    record {
      ring = c.step_on.ensures;
      found = found_more b p c.index.result.now c.loop-place.found.items c.close.new.found.items c.loop-place.current c.in_ok-current.current c.after_event-current.result (ring_of c.step_on.new.gauge) lt c.loop-place.invariant.found closed left c.step_on.ensures.same after;
      few = omega (arith, c.after_event-current.ensures.few, c.in_ok-current.ensures.few, c.loop-place.invariant.few);
    }

pub returns : goal.returns
returns c =
    let b = block_of c.args.ring.now in
    let p = c.loop-place.place in
    let past : length c.args.ring.now.events.items ≤ p = omega (arith, c.len-place-end.ensures, c.loop-place-test.false) in
    let closed : c.close-2.new.found.items ≡ c.loop-place.found.items ++ ending c.loop-place.current (is_settled (state_at b p).ring.values) =
    c.in_ok-close.ensures.found ∙ ap (λ (x : Ring). c.loop-place.found.items ++ ending c.loop-place.current (is_settled x.values)) c.loop-place.invariant.ring.same in
    found_all b p c.loop-place.found.items c.close-2.new.found.items c.loop-place.current past c.loop-place.invariant.found closed
