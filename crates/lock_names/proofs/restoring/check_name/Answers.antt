use Rattle.std.proofs.Common.{◌≡◌, ◌+◌, Bool, Option, Some, sym, ◌∙◌, ap, arith}
use Rattle.std.specs.Prelude.{is_some, not}
use Rattle.endless_ring.specs.Endless.{EndlessView}
use Rattle.held_locks.specs.declared.answers.Holder.{Holder}
use Rattle.held_locks.specs.Queues.{Lock}
use Rattle.held_locks.specs.Kept.{lock_of}
use Rattle.lock_names.specs.Table.{bound_of}
use Rattle.lock_names.proofs.Restores.{right_held, wrong_bound}
use Rattle.lock_names.proofs.restoring.check_name.Goals as goal
use Rattle.lock_names.proofs.restoring.check_name.Goals.{else-fixed-ring-via-then-fixed-ring+else-is_none, else-fixed-ring-via-else-fixed-ring}

pub returns-in-Ok-clause-ok : goal.returns-in-Ok-clause-ok
returns-in-Ok-clause-ok c = λ v o e f.
    let l : Lock = lock_of v in
    let at : o ≡ Some (bound_of c.in-Some.binding.now) = sym (c.in-Some.ensures.there o f) in
    let grants : l.ring.grants ≡ c.grants.result = sym (c.grants.ensures ∙ ap (λ (x : EndlessView). x.base.grants + x.ring.book.now.grants) (c.ring.ensures v e)) in
    let holder : l.holder ≡ c.holder-holder.result = sym (c.holder-holder.ensures v e) in
    right_held c.args.fixed c.args.top c.args.ring l o (bound_of c.in-Some.binding.now) at (c.in-Ok.ensures.ok l grants holder)
    (λ le. elim c.else-fixed-ring.branch [
      | else-fixed-ring-via-then-fixed-ring+else-is_none w ↦ ap (λ (h : Option Holder). is_some h) holder ∙ w.is_none.ensures ∙ ap (λ (q : Bool). not q) w.if-is_none.false
      | else-fixed-ring-via-else-fixed-ring w ↦ absurd (let lt = w.if-fixed-ring.false in omega (arith, le))
    ])

pub returns-in-Err-clause-why : goal.returns-in-Err-clause-why
returns-in-Err-clause-why c = λ v o e f.
    let l : Lock = lock_of v in
    let at : o ≡ Some (bound_of c.in-Some.binding.now) = sym (c.in-Some.ensures.there o f) in
    let grants : l.ring.grants ≡ c.grants.result = sym (c.grants.ensures ∙ ap (λ (x : EndlessView). x.base.grants + x.ring.book.now.grants) (c.ring.ensures v e)) in
    let holder : l.holder ≡ c.holder-holder.result = sym (c.holder-holder.ensures v e) in
    wrong_bound c.args.fixed c.args.top c.args.ring l o (bound_of c.in-Some.binding.now) c.in-Err.why at (c.in-Err.ensures.why l grants holder)
