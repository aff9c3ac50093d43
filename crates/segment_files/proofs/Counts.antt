-- The base after a segment, from its sums.
use Rattle.std.proofs.Common.{◌≡◌, ℕ, ◌+◌, ◌≤◌, cond, eqb, List, length, map, sym, ap, ◌∙◌, arith}
use Rattle.std.proofs.lemmas.List.{length-map}
use Rattle.std.proofs.lemmas.List.Sums.{count_by-le-length}
use Rattle.ring_model.specs.Ring.{Ring}
use Rattle.ring_model.specs.History.{opening, after}
use Rattle.ring_model.specs.Resources.{till, add_order}
use Rattle.ring_model.specs.Surveys.{is_granted, granted_count, corrupted_count, calm}
use Rattle.ring_model.specs.declared.events.Event.{Event}
use Rattle.saved_history.specs.declared.saved.SavedEvent.{SavedEvent}
use Rattle.ring_check.specs.declared.sums.Tally.{Tally}
use Rattle.ring_check.specs.Table.{event_of}
use Rattle.ring_model.specs.declared.bases.Base.{Base}
use Rattle.ring_model.specs.Bases.{base_after}
use Rattle.segment_files.specs.declared.replay.Left.{Left}
use Rattle.segment_files.specs.Replays.{IsLeftBy, base_from}

pub granted_few : (es : List SavedEvent) → granted_count (map event_of es) ≤ length es
granted_few es =
    let few = count_by-le-length (λ (e : Event). is_granted e.reply) (map event_of es) in
    let same = length-map es event_of in
    omega (arith, few, same)

abbrev basing : ℕ → ℕ → ℕ → ℕ → Base
basing events grants amount calm = record { events = events; grants = grants; amount = amount; calm = calm }

pub base_from_is : (b : Base) (r : Ring) (es : List SavedEvent) (events : ℕ) (t : Tally) (left : Left) → events ≡ length es → t.granted ≡ granted_count (map event_of es) →
    t.corrupted ≡ corrupted_count (map event_of es) → IsLeftBy r (map event_of es) left → base_from b events t left ≡ base_after b r (map event_of es)
base_from_is b r es events t left n g q l =
    let h = map event_of es in
    let many : events ≡ length h = n ∙ sym (length-map es event_of) in
    ap (λ (x : ℕ). basing (b.events + x) (b.grants + t.granted) (add_order b.amount left.amount) (cond (eqb t.corrupted 0) (b.calm + left.calm) left.calm)) many
    ∙ ap (λ (x : ℕ). basing (b.events + length h) (b.grants + x) (add_order b.amount left.amount) (cond (eqb t.corrupted 0) (b.calm + left.calm) left.calm)) g
    ∙ ap (λ (x : ℕ). basing (b.events + length h) (b.grants + granted_count h) (add_order b.amount x) (cond (eqb t.corrupted 0) (b.calm + left.calm) left.calm)) (sym l.amount)
    ∙ ap (λ (x : ℕ). basing (b.events + length h) (b.grants + granted_count h) (add_order b.amount (after till (opening r 0) h).content) (cond (eqb x 0) (b.calm + left.calm) left.calm)) q
    ∙ ap (λ (x : ℕ). basing (b.events + length h) (b.grants + granted_count h) (add_order b.amount (after till (opening r 0) h).content) (cond (eqb (corrupted_count h) 0) (b.calm + x) x)) l.calm
