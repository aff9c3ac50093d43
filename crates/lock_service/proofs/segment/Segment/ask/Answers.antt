use Rattle.std.proofs.Common.{◌≡◌, ℕ, ◌-◌, ◌+◌, Bool, ◌||◌, length, ap, subst, sym, refl, ◌∙◌, arith}
use Rattle.std.specs.Prelude.{slice_get, ◌≤◌, vec_capacity}
use Rattle.held_locks.specs.Asked.{asked, events_at}
use Rattle.lock_journal.specs.Due.{has_short}
use Rattle.lock_journal.specs.Counting.{SegmentView, IsCounted, count_about, end_count}
use Rattle.held_locks.proofs.Asking.{asked_long}
use Rattle.lock_journal.proofs.Short.{short_after, watched_after}
use Rattle.lock_journal.proofs.Lacks.{lacking_same}
use Rattle.lock_service.proofs.Unchanged.{unchanged}
use Rattle.lock_service.proofs.segment.Segment.ask.Goals as goal

pub invariant_of-self : goal.invariant_of-self
invariant_of-self c =
    let old = c.self.inside.locks in
    let new = c.ask-done.new.self in
    let long : length new ≡ length old = asked_long old new c.args.client c.args.lock (asked c.args.ask) c.ask-done.result.answers c.ask-done.ensures.answer in
    let short : c.was_or_is-self-inside.result ≡ (c.self.inside.short || has_short new) =
    (c.was_or_is-self-inside.ensures ∙ ap (λ (b : Bool). c.self.inside.short || b) c.is_short_at.ensures) ∙ short_after old new c.args.client c.args.lock (asked c.args.ask) c.ask-done.result.answers c.self.inside.short c.ask-done.ensures.answer c.self.invariant.1 in (
      subst (λ (n : ℕ). n ≤ vec_capacity c.self.inside.left) (sym long) c.self.invariant.0,
      watched_after new c.self.inside.short c.was_or_is-self-inside.result short,
    )

counted_inside : (c : goal.After-self-2-1) → IsCounted (record { locks = c.self.inside.locks; names = c.self.inside.names.value; left = c.self.inside.left.items; remaining = c.self.inside.remaining; short = c.self.inside.short })
    (record { locks = c.ask-done.new.self; names = c.self.inside.names.value; left = c.self.inside.left.items; remaining = c.after_events-self-inside.result; short = c.was_or_is-self-inside.result })
    (count_about c.args.lock c.self.inside.locks c.ask-done.new.self c.ask-done.result.answers.ended)
counted_inside c =
    let old = c.self.inside.locks in
    let new = c.ask-done.new.self in
    let ended = c.ask-done.result.answers.ended in
    let short : c.was_or_is-self-inside.result ≡ (c.self.inside.short || has_short new) =
    (c.was_or_is-self-inside.ensures ∙ ap (λ (b : Bool). c.self.inside.short || b) c.is_short_at.ensures) ∙ short_after old new c.args.client c.args.lock (asked c.args.ask) c.ask-done.result.answers c.self.inside.short c.ask-done.ensures.answer c.self.invariant.1 in
    let end = c.after_end-remaining.ensures in
    let events = c.after_events-self-inside.ensures in
    let before = c.ask-done.ensures.before in
    let after = c.ask-done.ensures.after in
    let left : c.after_events-self-inside.result ≡ c.self.inside.remaining - (end_count ended + (events_at (slice_get new c.args.lock) - events_at (slice_get old c.args.lock))) = omega (arith, end, events, before, after) in
    record { names = refl; remaining = left; short = short }

pub returns-clause-before : goal.returns-clause-before
returns-clause-before c = c.ask-done.ensures.before ∙ ap (λ (s : SegmentView). events_at (slice_get s.locks c.args.lock)) c.self.view_is

pub returns-clause-counted : goal.returns-clause-counted
returns-clause-counted c =
    let new = c.ask-done.new.self in
    let now : SegmentView = record { locks = new; names = c.self.inside.names.value; left = c.self.inside.left.items; remaining = c.after_events-self-inside.result; short = c.was_or_is-self-inside.result } in
    subst (λ (s : SegmentView). IsCounted s now (count_about c.args.lock s.locks new c.ask-done.result.answers.ended)) c.self.view_is (counted_inside c)

pub returns-clause-lack : goal.returns-clause-lack
returns-clause-lack c = λ e.
    let old = c.self.inside.locks in
    let new = c.ask-done.new.self in
    let r = c.ask-done.result.answers in
    let s = lacking_same old new c.args.client c.args.lock (asked c.args.ask) r c.ask-done.ensures.answer e in
    let now : SegmentView = record { locks = new; names = c.self.inside.names.value; left = c.self.inside.left.items; remaining = c.after_events-self-inside.result; short = c.was_or_is-self-inside.result } in
    subst (λ (s : SegmentView). now ≡ s) c.self.view_is
    (unchanged c.self.inside.names.value old new c.self.inside.left.items c.self.inside.remaining c.after_events-self-inside.result c.self.inside.short c.was_or_is-self-inside.result c.args.lock r.ended c.self.invariant.1 s.0 s.1 (counted_inside c))
