-- The walk over a history finds its repairs.
use Rattle.std.proofs.Common.{◌≡◌, ℕ, ◌+◌, ◌<◌, ◌≤◌, Bool, true, false, cond, List, [], ◌∷◌, ◌++◌, length, take, drop, get_or, map, Option, Some, None, refl, sym, ap, ◌∙◌, arith, append_assoc, add-one}
use Rattle.std.proofs.lemmas.List.{take_all, drop_all, append-nil}
use Rattle.std.proofs.Math.Seq.{drop-cons}
use Rattle.ring_model.specs.Ring.{Ring, ring_with, is_settled}
use Rattle.ring_model.specs.History.{State, next, after}
use Rattle.ring_model.specs.Resources.{till}
use Rattle.ring_model.specs.Surveys.{is_corrupted}
use Rattle.ring_model.specs.declared.events.Event.{Event}
use Rattle.ring_model.proofs.Histories.{after-push}
use Rattle.saved_history.specs.declared.saved.SavedEvent.{SavedEvent}
use Rattle.saved_history.specs.Content.{Block}
use Rattle.ring_check.specs.Table.{event_of, first_state}
use Rattle.history_steps.proofs.Places.{history_more}
use Rattle.history_repairs.specs.declared.repairs.Repair.{Repair}
use Rattle.history_repairs.specs.Repairs.{begun, with_event, ended, repairs}
use Rattle.history_repairs.specs.Lines.{repairs_of}
use Rattle.history_repairs.specs.Walks.{state_at, events_from, ending, left_open, with_event_of, after_event, open_ended}

-- one event more, by whether the ring is settled before it and whether it is a corruption: `other` is
-- what the repair becomes that this begins, and `back` what is found after it
one_more : (a : State ℕ) (e : Event) (es : List Event) (r : Repair) (s c : Bool) (back : List Repair) →
    let b = next till a e.op in
    cond s (r ∷ []) (cond c [] (ended till (with_event r e.reply) b es)) ++ (cond c (ended till (begun b.ring) b es) [] ++ back)
    ≡ cond s (r ∷ []) [] ++ (open_ended (cond c (Some (begun b.ring)) (with_event_of (cond s None (Some r)) e)) b es ++ back)
one_more a e es r true true back = refl
one_more a e es r true false back = refl
one_more a e es r false true back = refl
one_more a e es r false false back = refl

none_more : (a : State ℕ) (e : Event) (es : List Event) (c : Bool) (back : List Repair) →
    let b = next till a e.op in
    cond c (ended till (begun b.ring) b es) [] ++ back ≡ open_ended (cond c (Some (begun b.ring)) None) b es ++ back
none_more a e es true back = refl
none_more a e es false back = refl

-- one event more
stepped : (current : Option Repair) (a : State ℕ) (e : Event) (es : List Event) →
    let b = next till a e.op in
    open_ended current a (e ∷ es) ++ repairs till a (e ∷ es)
    ≡ ending current (is_settled a.ring.values)
    ++ (open_ended (after_event (left_open current (is_settled a.ring.values)) e b.ring) b es ++ repairs till b es)
stepped None a e es = none_more a e es (is_corrupted e.reply) (repairs till (next till a e.op) es)
stepped (Some r) a e es = one_more a e es r (is_settled a.ring.values) (is_corrupted e.reply) (repairs till (next till a e.op) es)

-- the events from a place on
from_here : (b : Block) (place : ℕ) (d : SavedEvent) → place < length b.events → events_from b place ≡ event_of (get_or b.events place d) ∷ events_from b (place + 1)
from_here b place d lt = rw (add-one, drop-cons b.events place d) refl

state_more : (b : Block) (place : ℕ) (d : SavedEvent) → place < length b.events → state_at b (place + 1) ≡ next till (state_at b place) (event_of (get_or b.events place d)).op
state_more b place d lt =
    let start = first_state (ring_with b.k b.start) in
    ap (λ (u : List Event). after till start u) (history_more b place d lt) ∙ after-push till start (map event_of (take place b.events)) (event_of (get_or b.events place d))

-- what was found so far, and what is open, with what is to come
abbrev pub AreFound : Block → ℕ → List Repair → Option Repair → Type 0
AreFound b place found current =
    repairs_of b ≡ found ++ (open_ended current (state_at b place) (events_from b place) ++ repairs till (state_at b place) (events_from b place))

pub found_more : (b : Block) (place : ℕ) (d : SavedEvent) (found next_found : List Repair) (current left next_open : Option Repair) (ring : Ring) → place < length b.events →
    AreFound b place found current → next_found ≡ found ++ ending current (is_settled (state_at b place).ring.values) → left ≡ left_open current (is_settled (state_at b place).ring.values) →
    ring ≡ (state_at b (place + 1)).ring → next_open ≡ after_event left (event_of (get_or b.events place d)) ring → AreFound b (place + 1) next_found next_open
found_more b place d found next_found current left next_open ring lt so_far closed opened at after_is =
    let a = state_at b place in
    let e = event_of (get_or b.events place d) in
    let es = events_from b (place + 1) in
    let t = next till a e.op in
    let s = is_settled a.ring.values in
    let here = from_here b place d lt in
    let to : state_at b (place + 1) ≡ t = state_more b place d lt in
    let one : repairs_of b ≡ found ++ (open_ended current a (e ∷ es) ++ repairs till a (e ∷ es)) =
    so_far ∙ ap (λ (u : List Event). found ++ (open_ended current a u ++ repairs till a u)) here in
    let two : repairs_of b ≡ found ++ (ending current s ++ (open_ended (after_event (left_open current s) e t.ring) t es ++ repairs till t es)) =
    one ∙ ap (λ (u : List Repair). found ++ u) (stepped current a e es) in
    let three : repairs_of b ≡ next_found ++ (open_ended (after_event (left_open current s) e t.ring) t es ++ repairs till t es) =
    two ∙ sym (append_assoc found (ending current s) (open_ended (after_event (left_open current s) e t.ring) t es ++ repairs till t es))
    ∙ ap (λ (u : List Repair). u ++ (open_ended (after_event (left_open current s) e t.ring) t es ++ repairs till t es)) (sym closed) in
    let now : next_open ≡ after_event (left_open current s) e t.ring =
    after_is ∙ ap (λ (o : Option Repair). after_event o e ring) opened ∙ ap (λ (r : Ring). after_event (left_open current s) e r) (at ∙ ap (λ (x : State ℕ). x.ring) to) in
    three
    ∙ ap (λ (o : Option Repair). next_found ++ (open_ended o t es ++ repairs till t es)) (sym now)
    ∙ ap (λ (x : State ℕ). next_found ++ (open_ended next_open x es ++ repairs till x es)) (sym to)

-- before any event
pub found_none : (b : Block) → AreFound b 0 [] None
found_none b = refl

last_ended : (current : Option Repair) (a : State ℕ) → open_ended current a [] ≡ ending current (is_settled a.ring.values)
last_ended None a = refl
last_ended (Some r) a = refl

-- after all
pub found_all : (b : Block) (place : ℕ) (found next_found : List Repair) (current : Option Repair) → length b.events ≤ place → AreFound b place found current →
    next_found ≡ found ++ ending current (is_settled (state_at b place).ring.values) → next_found ≡ repairs_of b
found_all b place found next_found current past so_far closed =
    let a = state_at b place in
    let none : events_from b place ≡ [] = ap (λ (u : List SavedEvent). map event_of u) (drop_all place b.events past) in
    let one : repairs_of b ≡ found ++ (open_ended current a [] ++ repairs till a []) = so_far ∙ ap (λ (u : List Event). found ++ (open_ended current a u ++ repairs till a u)) none in
    closed ∙ ap (λ (u : List Repair). found ++ u) (sym (last_ended current a) ∙ sym (append-nil (open_ended current a []))) ∙ sym one
