use Rattle.std.proofs.Common.{rules, ◌≤◌, ◌<◌, length, Result, Err, sym, ap, subst, ◌∙◌, inl}
use Rattle.std.proofs.lemmas.Result.{err_from_is_err_and}
use Rattle.ring_model.specs.Groups.{Rises}
use Rattle.ring_book.specs.declared.books.groups.GroupReceipt.{GroupReceipt}
use Rattle.one_thread_ring.specs.Refusals.{IsDecided, group_refusal}
use Rattle.one_thread_ring.specs.declared.errors.CallError.{CallError}
use Rattle.one_thread_ring.proofs.Kept.{grouped_kept, grouped_told}
use Rattle.one_thread_ring.proofs.Refusals.{bounds_kept, seated, group_rising, group_refused, group_answered}
use Rattle.one_thread_ring.proofs.rings.OneThreadRing.pass_group.Goals as goal

pub invariant_of-self-2 : goal.invariant_of-self-2
invariant_of-self-2 g c =
    let within : c.args.seat < length c.self.inside.clients.items = search rules in
    grouped_kept g.R.Resource.works g.R.Resource.first c.self.inside.book c.pass_group.new.self c.self.inside.clients.items c.args.seat c.args.order c.args.machines.now c.in_ok-receipt.receipt c.self.invariant c.in_ok-receipt.ensures.book within c.in_ok-receipt.ensures.ok

pub returns-clause-ring : goal.returns-clause-ring
returns-clause-ring g c = (invariant_of-self-2 g c).ring

pub returns-clause-told : goal.returns-clause-told
returns-clause-told g c =
    let within : c.args.seat < length c.self.inside.clients.items = search rules in
    rw (← c.self.view_is) (grouped_told g.R.Resource.works g.R.Resource.first c.self.inside.book c.pass_group.new.self c.self.inside.clients.items c.args.seat c.args.order c.args.machines.now c.in_ok-receipt.receipt c.self.invariant c.in_ok-receipt.ensures.book within c.in_ok-receipt.ensures.ok)

pub returns-then-is_empty-clause-refused : goal.returns-then-is_empty-clause-refused
returns-then-is_empty-clause-refused g c =
    let within : c.args.seat < length c.self.inside.clients.items = search rules in
    let none : Rises 0 (length c.self.inside.book.now.ring.values) c.args.machines.now × (1 ≤ length c.args.machines.now) → ⊥ = search rules in
    rw (← c.self.view_is) (inl (group_rising (bounds_kept c.self.inside.book c.self.inside.clients.items) c.args.seat c.args.machines.now (seated c.self.inside.book.history c.self.inside.clients.items c.args.seat within) none))

pub returns-in_err-receipt-clause-refused : goal.returns-in_err-receipt-clause-refused
returns-in_err-receipt-clause-refused g c =
    let p = err_from_is_err_and c.from_residual.result c.from_residual.ensures.1 in
    let within : c.args.seat < length c.self.inside.clients.items = search rules in
    let rising : Rises 0 (length c.self.inside.book.now.ring.values) c.args.machines.now = search rules in
    let some : 1 ≤ length c.args.machines.now = search rules in
    let is = group_refused (bounds_kept c.self.inside.book c.self.inside.clients.items) c.args.seat c.args.machines.now c.in_err-receipt.field-0.0 (seated c.self.inside.book.history c.self.inside.clients.items c.args.seat within) rising some
    c.in_err-receipt.ensures.whole c.in_err-receipt.ensures.unprivileged c.in_err-receipt.ensures.full in
    rw (← c.self.view_is) (subst (λ (r : Result GroupReceipt CallError). IsDecided (group_refusal (bounds_kept c.self.inside.book c.self.inside.clients.items) c.args.seat c.args.machines.now) r) (sym (p.1 ∙ ap (λ (x : CallError). Err x) p.2)) is)

pub returns-clause-refused : goal.returns-clause-refused
returns-clause-refused g c =
    let within : c.args.seat < length c.self.inside.clients.items = search rules in
    let rising : Rises 0 (length c.self.inside.book.now.ring.values) c.args.machines.now = search rules in
    let some : 1 ≤ length c.args.machines.now = search rules in
    rw (← c.self.view_is) (group_answered (bounds_kept c.self.inside.book c.self.inside.clients.items) c.args.seat c.args.machines.now c.in_ok-receipt.receipt (seated c.self.inside.book.history c.self.inside.clients.items c.args.seat within) rising some
    c.in_ok-receipt.ensures.whole c.in_ok-receipt.ensures.unprivileged c.in_ok-receipt.ensures.full)
