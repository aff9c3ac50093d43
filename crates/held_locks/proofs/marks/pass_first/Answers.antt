use Rattle.std.proofs.Common.{◌≡◌, ℕ, ◌+◌, true, sym, ◌∙◌, ap, subst, arith}
use Rattle.ring_model.specs.Ring.{is_privileged, first_privileged}
use Rattle.ring_model.specs.History.{reply}
use Rattle.ring_model.specs.Resources.{till}
use Rattle.ring_model.specs.declared.events.Op.TheVariants as op
use Rattle.ring_model.specs.declared.events.Event.{Event}
use Rattle.held_locks.specs.Promises.{number_of}
use Rattle.held_locks.specs.Kept.{state_of}
use Rattle.held_locks.specs.Parts.{IsMade}
use Rattle.held_locks.proofs.Rings.{grant_number}
use Rattle.held_locks.proofs.Calls.{called_event, called_makes, called_kept, kept_is_ring, first_below, first_passes}
use Rattle.held_locks.proofs.marks.pass_first.Goals as goal

pub grant-receipt-requires-clause-seat : goal.grant-receipt-requires-clause-seat
grant-receipt-requires-clause-seat c = let n = c.requires.kept.seats in let s = c.requires.seat in omega arith

pub grant-receipt-requires-clause-machine : goal.grant-receipt-requires-clause-machine
grant-receipt-requires-clause-machine c =
    let f = first_below c.args.ring.now c.requires.kept in
    let e : c.args.first ≡ first_privileged c.args.ring.now.ring.book.now.ring.values = c.requires.first in
    omega arith

pub grant-receipt-requires-clause-privileged : goal.grant-receipt-requires-clause-privileged
grant-receipt-requires-clause-privileged c =
    subst (λ (m : ℕ). is_privileged c.args.ring.now.ring.book.now.ring.values m ≡ true) (sym c.requires.first) (first_passes c.args.ring.now c.requires.kept)

pub returns-clause-number : goal.returns-clause-number
returns-clause-number c =
    let event = called_event c.args.ring.now c.grant-receipt.new.self c.args.seat (op.Pass c.args.first c.args.order) c.grant-receipt.result c.grant-receipt.ensures.called in
    let number = grant_number (state_of c.args.ring.now) c.args.order (kept_is_ring c.args.ring.now c.requires.kept) in
    c.number_of.ensures (c.args.ring.now.base.grants + c.args.ring.now.ring.book.now.grants + 1)
    (ap (λ (e : Event). number_of e.reply) event ∙ ap (λ (m : ℕ). number_of (reply till (state_of c.args.ring.now) (op.Pass m c.args.order))) c.requires.first ∙ number)

pub returns-clause-made : goal.returns-clause-made
returns-clause-made c =
    subst (λ (m : ℕ). IsMade c.args.ring.now c.grant-receipt.new.self c.args.seat (op.Pass m c.args.order)) c.requires.first
    (called_makes c.args.ring.now c.grant-receipt.new.self c.args.seat (op.Pass c.args.first c.args.order) c.grant-receipt.result c.grant-receipt.ensures.called)

pub returns-clause-kept : goal.returns-clause-kept
returns-clause-kept c = called_kept c.args.ring.now c.grant-receipt.new.self c.args.seat (op.Pass c.args.first c.args.order) c.grant-receipt.result c.requires.kept c.grant-receipt.ensures.endless c.grant-receipt.ensures.called
