-- The laws of settlement hold of a ring's segment, and its replies are those of a segment.
use Rattle.std.proofs.Common.{◌≡◌, ℕ, zero, suc, ◌+◌, ◌≤◌, List, [], ◌∷◌, length, Some, subst, arith}
use Rattle.std.specs.Prelude.{slice_get}
use Rattle.std.proofs.lemmas.Option.{none-some, same_Some}
use Rattle.ring_model.specs.Limits.{event_limit}
use Rattle.ring_model.specs.History.{State, IsLegal, StepOf, next, opening}
use Rattle.ring_model.specs.HistoryLaws.{Settlement}
use Rattle.ring_model.specs.Resources.{till}
use Rattle.ring_model.specs.declared.events.Event.{Event}
use Rattle.ring_model.specs.declared.events.Op.{Op}
use Rattle.ring_model.specs.declared.events.Op.TheVariants.{Pass, Member, Corrupt}
use Rattle.ring_model.specs.declared.events.Reply.{Reply}
use Rattle.ring_model.specs.declared.events.Reply.TheVariants.{Granted, NotPrivileged, Corrupted}
use Rattle.ring_model.proofs.Histories.{grants-after}
use Rattle.ring_book.proofs.Repairing.{book_settlement}
use Rattle.ring_model.specs.Tallies.{IsInSegment}
use Rattle.endless_ring.specs.Endless.{EndlessView, IsEndless}
use Rattle.endless_ring.proofs.Segments.{few}

pub settled : (e : EndlessView) → IsEndless e → Settlement till (opening e.ring.book.start 0) e.ring.book.history
settled e i = book_settlement till 0 e.ring.book i.ring.book

step_small : (a b : State ℕ) (o : Op) (r : Reply) → StepOf till a o r b → a.grants + 1 ≤ event_limit → IsInSegment r
step_small a b (Pass i order) (Granted number result) h le = omega (arith, h.2)
step_small a b (Pass i order) NotPrivileged h le = tt
step_small a b (Pass i order) (Corrupted old) h le = absurd h
step_small a b (Member i order left) (Granted number result) h le = omega (arith, h.2)
step_small a b (Member i order left) NotPrivileged h le = absurd h
step_small a b (Member i order left) (Corrupted old) h le = absurd h
step_small a b (Corrupt i v) (Granted number result) h le = absurd h
step_small a b (Corrupt i v) NotPrivileged h le = absurd h
step_small a b (Corrupt i v) (Corrupted old) h le = tt

event_small : (a : State ℕ) (h : List Event) (n : ℕ) (e : Event) → IsLegal till a h → a.grants + length h ≤ event_limit → slice_get h n ≡ Some e → IsInSegment e.reply
event_small a [] n e l le at = absurd (none-some e at)
event_small a (x ∷ h) zero e l le at =
    subst (λ (y : Event). IsInSegment y.reply) (same_Some x e at) (step_small a (next till a x.op) x.op x.reply l.0 (omega (arith, le)))
event_small a (x ∷ h) (suc n) e l le at =
    let one : (next till a x.op).grants ≤ a.grants + 1 = grants-after till a (x ∷ []) in
    event_small (next till a x.op) h n e l.1 (omega (arith, le, one)) at

-- each reply of a segment is one of a segment
pub within : (d : EndlessView) (n : ℕ) (e : Event) → IsEndless d → slice_get d.ring.book.history n ≡ Some e → IsInSegment e.reply
within d n e i at =
    let most = few d.ring i.ring in
    event_small (opening d.ring.book.start 0) d.ring.book.history n e i.ring.book.legal (omega (arith, most)) at
