use Rattle.std.proofs.Common.{◌≡◌, length, map, arith}
use Rattle.ring_model.specs.Surveys.{granted_count, corrupted_count}
use Rattle.saved_history.specs.Content.{block_of}
use Rattle.ring_check.specs.Table.{event_of}
use Rattle.ring_check.specs.Legal.{history}
use Rattle.ring_check.proofs.Totals.{sum_step, events_le, surveys_le, granted_le, corrupted_le}
use Rattle.ring_check.proofs.sums.sums_of.Goals as goal

pub overflow_add-sums : goal.overflow_add-sums
overflow_add-sums c =
    let s = sum_step (λ b. length b.events) c.args.rings.now c.loop-ring.ring-index c.ring-item.result c.loop-ring-test.true c.ring-item.is in
    let n : c.len.result ≡ length c.ring-item.result.events.items = omega (arith, c.len.ensures, c.ring-item.result.events.ok.0) in
    omega (arith, s.room, events_le (map block_of c.args.rings.now), c.loop-ring.invariant.events, c.requires.room)

pub overflow_add-sums-in-loop-ring : goal.overflow_add-sums-in-loop-ring
overflow_add-sums-in-loop-ring c =
    let s = sum_step (λ b. granted_count (history b)) c.args.rings.now c.loop-ring.ring-index c.ring-item.result c.loop-ring-test.true c.ring-item.is in
    let n : c.count_events-tally.result.granted ≡ granted_count (map event_of c.ring-item.result.events.items) = rw c.deref.ensures.value at c.count_events-tally.ensures.granted in
    omega (arith, s.room, granted_le (map block_of c.args.rings.now), c.loop-ring.invariant.granted, c.requires.room)

pub overflow_add-sums-in-loop-ring-2 : goal.overflow_add-sums-in-loop-ring-2
overflow_add-sums-in-loop-ring-2 c =
    let s = sum_step (λ b. corrupted_count (history b)) c.args.rings.now c.loop-ring.ring-index c.ring-item.result c.loop-ring-test.true c.ring-item.is in
    let n : c.count_events-tally.result.corrupted ≡ corrupted_count (map event_of c.ring-item.result.events.items) = rw c.deref.ensures.value at c.count_events-tally.ensures.corrupted in
    omega (arith, s.room, corrupted_le (map block_of c.args.rings.now), c.loop-ring.invariant.corrupted, c.requires.room)

pub overflow_add-sums-in-loop-ring-3 : goal.overflow_add-sums-in-loop-ring-3
overflow_add-sums-in-loop-ring-3 c =
    let s = sum_step (λ b. length b.surveys) c.args.rings.now c.loop-ring.ring-index c.ring-item.result c.loop-ring-test.true c.ring-item.is in
    let n : c.len-in-loop-ring.result ≡ length c.ring-item.result.surveys.items = omega (arith, c.len-in-loop-ring.ensures, c.ring-item.result.surveys.ok.0) in
    omega (arith, s.room, surveys_le (map block_of c.args.rings.now), c.loop-ring.invariant.surveys, c.requires.room)

pub loop-ring-preserved : goal.loop-ring-preserved
loop-ring-preserved c =
    let e = sum_step (λ b. length b.events) c.args.rings.now c.loop-ring.ring-index c.ring-item.result c.loop-ring-test.true c.ring-item.is in
    let g = sum_step (λ b. granted_count (history b)) c.args.rings.now c.loop-ring.ring-index c.ring-item.result c.loop-ring-test.true c.ring-item.is in
    let d = sum_step (λ b. corrupted_count (history b)) c.args.rings.now c.loop-ring.ring-index c.ring-item.result c.loop-ring-test.true c.ring-item.is in
    let s = sum_step (λ b. length b.surveys) c.args.rings.now c.loop-ring.ring-index c.ring-item.result c.loop-ring-test.true c.ring-item.is in
    let ne : c.len.result ≡ length c.ring-item.result.events.items = omega (arith, c.len.ensures, c.ring-item.result.events.ok.0) in
    let ng : c.count_events-tally.result.granted ≡ granted_count (map event_of c.ring-item.result.events.items) = rw c.deref.ensures.value at c.count_events-tally.ensures.granted in
    let nd : c.count_events-tally.result.corrupted ≡ corrupted_count (map event_of c.ring-item.result.events.items) = rw c.deref.ensures.value at c.count_events-tally.ensures.corrupted in
    let ns : c.len-in-loop-ring.result ≡ length c.ring-item.result.surveys.items = omega (arith, c.len-in-loop-ring.ensures, c.ring-item.result.surveys.ok.0) in
    record {
      rings = c.loop-ring.invariant.rings;
      events = omega (arith, e.more, c.loop-ring.invariant.events);
      granted = omega (arith, g.more, c.loop-ring.invariant.granted);
      corrupted = omega (arith, d.more, c.loop-ring.invariant.corrupted);
      surveys = omega (arith, s.more, c.loop-ring.invariant.surveys);
    }
