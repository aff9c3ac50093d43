use Rattle.std.proofs.Common.{◌≡◌, ◌≤◌, length, subst, arith, vec_capacity}
use Rattle.lock_journal.specs.Counting.{SegmentView, IsCounted, count_of_all}
use Rattle.lock_journal.proofs.Short.{left_long, watched_after}
use Rattle.lock_journal.proofs.ShortLeft.{left_counted}
use Rattle.lock_service.proofs.segment.Segment.leave.Goals as goal

pub invariant_of-self : goal.invariant_of-self
invariant_of-self c =
    let old = c.self.inside.locks in
    let new = c.leave.new.self in
    let l = c.leave.ensures.left in
    let long : length new ≡ length old = left_long old new c.args.client l.0 l.2 in
    let few : length old ≤ vec_capacity c.self.inside.left = c.self.invariant.0 in
    let cleared = c.clear.ensures.capacity in
    let told = c.leave.ensures.capacity in
    let counted = left_counted old new c.args.client l.0 l.2 c.self.inside.names.value c.self.inside.left.items c.clear.new.self.items c.leave.new.left.items c.as_slice.result.now c.as_slice-2.result.now c.self.inside.remaining c.after_left-self-inside.result c.self.inside.short c.has_short_left-short.result c.was_or_is-self-inside.result
    c.clear.ensures.items l.1 c.as_slice.ensures.value c.as_slice-2.ensures.value c.self.invariant.1 c.after_left-self-inside.ensures c.has_short_left-short.ensures c.was_or_is-self-inside.ensures in (
      omega (arith, long, few, cleared, told),
      watched_after new c.self.inside.short c.was_or_is-self-inside.result counted.short,
    )

pub returns-clause-counted : goal.returns-clause-counted
returns-clause-counted c =
    let old = c.self.inside.locks in
    let new = c.leave.new.self in
    let left = c.leave.new.left.items in
    let l = c.leave.ensures.left in
    let now : SegmentView = record { locks = new; names = c.self.inside.names.value; left = left; remaining = c.after_left-self-inside.result; short = c.was_or_is-self-inside.result } in
    subst (λ (s : SegmentView). IsCounted s now (count_of_all new left)) c.self.view_is
    (left_counted old new c.args.client l.0 l.2 c.self.inside.names.value c.self.inside.left.items c.clear.new.self.items left c.as_slice.result.now c.as_slice-2.result.now c.self.inside.remaining c.after_left-self-inside.result c.self.inside.short c.has_short_left-short.result c.was_or_is-self-inside.result
    c.clear.ensures.items l.1 c.as_slice.ensures.value c.as_slice-2.ensures.value c.self.invariant.1 c.after_left-self-inside.ensures c.has_short_left-short.ensures c.was_or_is-self-inside.ensures)
