use Rattle.std.proofs.Common.{rules, subst, List, [], ◌∷◌, ◌++◌, ap, ◌∙◌, sym}
use mathlib.Core.List.{IsPrefix}
use Rattle.ring_model.specs.declared.events.Event.{Event}
use Rattle.ring_model.specs.declared.events.Entry.TheVariants as entry
use Rattle.ring_shared.specs.Client.{Client}
use Rattle.ring_shared.specs.Folds.{IsWritten}
use Rattle.ring_logs.specs.Seats.{AreOfSeats}
use Rattle.ring_shared.proofs.Held.{held_more}
use Rattle.ring_shared.proofs.Stepped.{stepped_one}
use Rattle.ring_shared.proofs.locked.Locked.call.Goals as goal

pub surely_add-requires-clause-of_seats : goal.surely_add-requires-clause-of_seats
surely_add-requires-clause-of_seats g c =
    let e = c.in_ok-receipt.receipt.event in
    let held = held_more g.R.Resource.works g.R.Resource.first g.N.Name.start g.N.Name.seats g.N.Name.legal c.self.inside.book c.log_call.new.book c.args.seat.now.number c.args.op c.in_ok-receipt.receipt
    c.self.invariant.0 c.in_ok-receipt.ensures.book c.in_ok-receipt.ensures.ok c.in_ok-receipt.ensures.within in
    subst (AreOfSeats g.N.Name.seats) (c.in_ok-receipt.ensures.ok.grown ∙ ap (λ (h : List Event). h ++ e ∷ []) (sym c.self.invariant.1)) held.of_seats

pub last_effect-effect-requires-clause-held : goal.last_effect-effect-requires-clause-held
last_effect-effect-requires-clause-held g c =
    held_more g.R.Resource.works g.R.Resource.first g.N.Name.start g.N.Name.seats g.N.Name.legal c.self.inside.book c.log_call.new.book c.args.seat.now.number c.args.op c.in_ok-receipt.receipt
    c.self.invariant.0 c.in_ok-receipt.ensures.book c.in_ok-receipt.ensures.ok c.in_ok-receipt.ensures.within

pub last_effect-effect-requires-clause-last : goal.last_effect-effect-requires-clause-last
last_effect-effect-requires-clause-last g c = (c.self.inside.book.history, c.in_ok-receipt.ensures.ok.grown)

pub event-operation-requires : goal.event-operation-requires
event-operation-requires g c =
    let e = c.in_ok-receipt.receipt.event in
    let f = c.last_effect-effect.result in
    let front = c.again.ensures ∙ (c.surely_add.ensures.is ∙ (ap (λ (h : List Event). h ++ e ∷ []) c.self.invariant.1 ∙ sym c.in_ok-receipt.ensures.ok.grown)) in
    subst (λ (h : List Event). IsWritten g.N.Name.start h f.machine f.value f.calm) (sym front) c.last_effect-effect.ensures

pub show-requires : goal.show-requires
show-requires g c =
    let e = c.in_ok-receipt.receipt.event in
    let next = c.again.ensures ∙ (c.surely_add.ensures.is ∙ ap (λ (h : List Event). h ++ e ∷ []) c.self.invariant.1) in
    rw (c.event-operation.ensures, c.self.invariant.3) (stepped_one c.self.inside.book.history c.again.result e next)

pub go_on-requires-clause-effect : goal.go_on-requires-clause-effect
go_on-requires-clause-effect g c =
    let e = c.in_ok-receipt.receipt.event in
    let f = c.last_effect-effect.result in
    let front = c.surely_add.ensures.is ∙ (ap (λ (h : List Event). h ++ e ∷ []) c.self.invariant.1 ∙ sym c.in_ok-receipt.ensures.ok.grown) in
    let shown = c.show.ensures.shown ∙ (ap (λ o. o.list) c.event-operation.ensures ∙ (c.again.ensures ∙ front)) in
    subst (λ (h : List Event). IsWritten g.N.Name.start h f.machine f.value f.calm) (sym (c.published.ensures ∙ shown)) c.last_effect-effect.ensures

pub go_on-requires-clause-later : goal.go_on-requires-clause-later
go_on-requires-clause-later g c =
    let shown = c.show.ensures.shown ∙ (ap (λ o. o.list) c.event-operation.ensures ∙ c.again.ensures) in
    let begins = subst (λ (h : List Event). IsPrefix h c.surely_add.new.self) c.front.ensures c.surely_add.ensures.begins in
    subst (λ (h : List Event). IsPrefix c.log_call.new.seat.seen h) (sym (c.published.ensures ∙ shown)) begins

pub invariant_of-self-2 : goal.invariant_of-self-2
invariant_of-self-2 g c =
    let ok = c.in_ok-receipt.ensures.ok in
    let e = c.in_ok-receipt.receipt.event in
    let held = held_more g.R.Resource.works g.R.Resource.first g.N.Name.start g.N.Name.seats g.N.Name.legal c.self.inside.book c.log_call.new.book c.args.seat.now.number c.args.op c.in_ok-receipt.receipt
    c.self.invariant.0 c.in_ok-receipt.ensures.book ok c.in_ok-receipt.ensures.within in
    let front = c.surely_add.ensures.is ∙ (ap (λ h. h ++ e ∷ []) c.self.invariant.1 ∙ sym ok.grown) in
    let shown = c.show.ensures.shown ∙ (ap (λ o. o.list) c.event-operation.ensures ∙ (c.again.ensures ∙ front)) in (
      held,
      front,
      shown,
      rw (c.show.ensures.pending) shown,
    )

pub returns-clause-ok : goal.returns-clause-ok
returns-clause-ok g c =
    let ok = c.in_ok-receipt.ensures.ok in
    let e = c.in_ok-receipt.receipt.event in
    let held = held_more g.R.Resource.works g.R.Resource.first g.N.Name.start g.N.Name.seats g.N.Name.legal c.self.inside.book c.log_call.new.book c.args.seat.now.number c.args.op c.in_ok-receipt.receipt
    c.self.invariant.0 c.in_ok-receipt.ensures.book ok c.in_ok-receipt.ensures.within in
    let front = c.surely_add.ensures.is ∙ (ap (λ h. h ++ e ∷ []) c.self.invariant.1 ∙ sym ok.grown) in
    let shown = c.show.ensures.shown ∙ (ap (λ o. o.list) c.event-operation.ensures ∙ (c.again.ensures ∙ front)) in
    let seen = c.published.ensures ∙ shown in
    let begins = subst (λ (h : List Event). IsPrefix h c.surely_add.new.self) c.front.ensures c.surely_add.ensures.begins in
    let logged = c.go_on.ensures
    ∙ (ap (λ (s : Client). record { number = s.number; log = s.log; seen = c.published.result.now; room = s.room }) c.in_ok-receipt.ensures.logged
    ∙ ap (λ (h : List Event). record { number = c.args.seat.now.number; log = c.args.seat.now.log ++ entry.Receipt c.in_ok-receipt.receipt ∷ []; seen = h; room = c.log_call.new.seat.room }) seen) in record {
      recorded = search rules;
      logged = search rules;
      room = search rules;
      later = subst (λ (s : Client). IsPrefix s.seen c.go_on.new.self.seen) c.in_ok-receipt.ensures.logged (subst (λ (h : List Event). IsPrefix c.log_call.new.seat.seen h) (sym (ap (λ (s : Client). s.seen) logged ∙ sym front)) begins);
      held = held;
    }
