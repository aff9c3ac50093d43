use Rattle.std.proofs.Common.{◌≡◌, ◌≤◌, ◌-◌, ◌||◌, Bool, List, length, ap, subst, ◌∙◌, arith}
use Rattle.std.specs.Prelude.{vec_capacity}
use Rattle.held_locks.specs.declared.answers.Left.{Left}
use Rattle.lock_journal.specs.Due.{has_short_left}
use Rattle.lock_journal.specs.Counting.{count_of_all}
use Rattle.lock_journal.proofs.Short.{left_long, watched_after}
use Rattle.lock_journal.proofs.ShortLeft.{short_left}
use Rattle.name_service.specs.Naming.{NamingView, IsNameCounted}
use Rattle.name_service.proofs.LeftSame.{short_raw}
use Rattle.name_service.proofs.segment.NameSegment.leave.Goals as goal

counted_inside : (c : goal.After-self-2-1) → IsNameCounted (record { named = c.self.inside.names; left = c.self.inside.left.items; remaining = c.self.inside.remaining; short = c.self.inside.short })
    (record { named = c.leave.new.self; left = c.leave.new.left.items; remaining = c.after_leave-after.result.remaining; short = c.after_leave-after.result.short })
    (count_of_all c.leave.new.self.locks c.leave.new.left.items)
counted_inside c =
    let old = c.self.inside.names in
    let new = c.leave.new.self in
    let left = c.leave.new.left.items in
    let d = c.leave.ensures.left in record {
      remaining = c.after_leave-after.ensures.remaining ∙ ap (λ (x : List Left). c.self.inside.remaining - count_of_all new.locks x) c.as_slice.ensures.value;
      short = c.after_leave-after.ensures.short
          ∙ ap (λ (x : List Left). c.self.inside.short || has_short_left new.locks x) c.as_slice.ensures.value
          ∙ ap (λ (b : Bool). c.self.inside.short || b) (short_raw old new c.args.client left d new.locks)
          ∙ short_left old.locks new.locks c.args.client d.raw d.locks c.self.inside.short c.self.invariant.1;
    }

pub invariant_of-self : goal.invariant_of-self
invariant_of-self c =
    let old = c.self.inside.names in
    let new = c.leave.new.self in
    let d = c.leave.ensures.left in
    let long : length new.locks ≡ length old.locks = left_long old.locks new.locks c.args.client d.raw d.locks in
    let few : length old.locks ≤ vec_capacity c.self.inside.left = c.self.invariant.0 in
    let told = c.leave.ensures.capacity in (
      omega (arith, long, few, told),
      watched_after new.locks c.self.inside.short c.after_leave-after.result.short (counted_inside c).short,
    )

pub returns-clause-counted : goal.returns-clause-counted
returns-clause-counted c =
    let new = c.leave.new.self in
    let left = c.leave.new.left.items in
    let now : NamingView = record { named = new; left = left; remaining = c.after_leave-after.result.remaining; short = c.after_leave-after.result.short } in
    subst (λ (s : NamingView). IsNameCounted s now (count_of_all new.locks left)) c.self.view_is (counted_inside c)
