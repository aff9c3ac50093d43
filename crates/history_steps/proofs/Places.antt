-- A ring from place to place: the ring after a call, whatever its resource holds.
use Rattle.std.proofs.Common.{◌≡◌, ℕ, ◌+◌, ◌<◌, ◌≤◌, cond, true, false, List, [], ◌∷◌, ◌++◌, length, take, get_or, map, refl, sym, ap, subst, ◌∙◌, arith}
use Rattle.std.proofs.lemmas.List.{take_more, take_all, map-append, length-set}
use Rattle.ring_model.specs.declared.events.Op.{Op}
use Rattle.ring_model.specs.declared.events.Op.TheVariants.{Pass, Member, Corrupt}
use Rattle.ring_model.specs.declared.events.Event.{Event}
use Rattle.ring_model.specs.Ring.{Ring, ring_with, is_privileged, moved, moved_value}
use Rattle.ring_model.specs.History.{State, granted_state, next, after}
use Rattle.ring_model.specs.Resources.{till}
use Rattle.ring_model.specs.Surveys.{calm}
use Rattle.ring_model.proofs.Histories.{after-push, calm_next, calm-push}
use Rattle.saved_history.specs.declared.saved.SavedEvent.{SavedEvent}
use Rattle.saved_history.specs.Content.{Block}
use Rattle.ring_check.specs.Table.{event_of, first_state}
use Rattle.saved_history.specs.declared.saved.SavedRing.{SavedRing}
use Rattle.ring_check.specs.declared.gauge.Gauge.{Gauge}
use Rattle.ring_check.specs.Gauges.{ring_of, IsGauge}
use Rattle.ring_model.specs.Runs.{passed}
use Rattle.history_steps.specs.Steps.{next_ring, ring_at, calm_at, HasRing}

pub next_is : (a : State ℕ) (o : Op) → (next till a o).ring ≡ next_ring a.ring o
next_is a (Pass i order) = elim (is_privileged a.ring.values i) as (λ p. (cond p (granted_state till a i order) a).ring ≡ cond p (moved a.ring i) a.ring) [ true ↦ refl | false ↦ refl ]
next_is a (Member i order left) = elim (is_privileged a.ring.values i) as (λ p. (cond p (granted_state till a i order) a).ring ≡ cond p (moved a.ring i) a.ring) [ true ↦ refl | false ↦ refl ]
next_is a (Corrupt i v) = refl

-- the events so far with one more
pub history_more : (b : Block) (i : ℕ) (d : SavedEvent) → i < length b.events → map event_of (take (i + 1) b.events) ≡ map event_of (take i b.events) ++ event_of (get_or b.events i d) ∷ []
history_more b i d lt = ap (λ (u : List SavedEvent). map event_of u) (take_more b.events i d lt) ∙ map-append event_of (take i b.events) (get_or b.events i d ∷ [])

-- one event further
pub ring_more : (b : Block) (i : ℕ) (d : SavedEvent) (r t : Ring) → i < length b.events → r ≡ ring_at b i → t ≡ next_ring r (event_of (get_or b.events i d)).op → t ≡ ring_at b (i + 1)
ring_more b i d r t lt at e =
    let start = first_state (ring_with b.k b.start) in
    let event = event_of (get_or b.events i d) in
    let push = history_more b i d lt in
    let state : after till start (map event_of (take (i + 1) b.events)) ≡ next till (after till start (map event_of (take i b.events))) event.op =
    ap (λ (u : List Event). after till start u) push ∙ after-push till start (map event_of (take i b.events)) event in
    e ∙ ap (λ (x : Ring). next_ring x event.op) at ∙ sym (ap (λ (s : State ℕ). s.ring) state ∙ next_is (after till start (map event_of (take i b.events))) event.op)

-- after the last event the ring stays
pub ring_stays : (b : Block) (i : ℕ) → length b.events ≤ i → ring_at b i ≡ ring_at b (i + 1)
ring_stays b i l =
    let e : take i b.events ≡ take (i + 1) b.events = take_all i b.events l ∙ sym (take_all (i + 1) b.events (omega arith)) in
    ap (λ (u : List SavedEvent). (after till (first_state (ring_with b.k b.start)) (map event_of u)).ring) e

-- and the calm
pub calm_more : (b : Block) (i : ℕ) (d : SavedEvent) (m t : ℕ) → i < length b.events → m ≡ calm_at b i → t ≡ calm_next m (event_of (get_or b.events i d)).reply → t ≡ calm_at b (i + 1)
calm_more b i d m t lt at e =
    let event = event_of (get_or b.events i d) in
    e ∙ ap (λ (x : ℕ). calm_next x event.reply) at ∙ sym (ap (λ (u : List Event). calm u) (history_more b i d lt) ∙ calm-push (map event_of (take i b.events)) event)

pub calm_stays : (b : Block) (i : ℕ) → length b.events ≤ i → calm_at b i ≡ calm_at b (i + 1)
calm_stays b i l =
    let e : take i b.events ≡ take (i + 1) b.events = take_all i b.events l ∙ sym (take_all (i + 1) b.events (omega arith)) in
    ap (λ (u : List SavedEvent). calm (map event_of u)) e

passed_k : (r : Ring) (i : ℕ) → (passed r i).k ≡ r.k
passed_k r i = elim (is_privileged r.values i) as (λ p. (cond p (moved r i) r).k ≡ r.k) [ true ↦ refl | false ↦ refl ]

passed_machines : (r : Ring) (i : ℕ) → length (passed r i).values ≡ length r.values
passed_machines r i = elim (is_privileged r.values i) as (λ p. length (cond p (moved r i) r).values ≡ length r.values) [ true ↦ length-set r.values i (moved_value r i) | false ↦ refl ]

next_k : (r : Ring) (o : Op) → (next_ring r o).k ≡ r.k
next_k r (Pass i order) = passed_k r i
next_k r (Member i order left) = passed_k r i
next_k r (Corrupt i v) = refl

next_machines : (r : Ring) (o : Op) → length (next_ring r o).values ≡ length r.values
next_machines r (Pass i order) = passed_machines r i
next_machines r (Member i order left) = passed_machines r i
next_machines r (Corrupt i v) = length-set r.values i v

-- the same ring by another name
pub named : (ring : SavedRing) (r t : Ring) (g : Gauge) → r ≡ t → HasRing ring r g → HasRing ring t g
named ring r t g e h = subst (λ (x : Ring). HasRing ring x g) e h

-- a gauge that made a step
pub stepped : (ring : SavedRing) (r t : Ring) (g h : Gauge) (o : Op) → HasRing ring r g → IsGauge h → ring_of h ≡ next_ring (ring_of g) o → ring_of h ≡ t → HasRing ring t h
stepped ring r t g h o has is step e = record {
  gauge = is;
  k = ap (λ (x : Ring). x.k) step ∙ next_k (ring_of g) o ∙ has.k;
  machines = ap (λ (x : Ring). length x.values) step ∙ next_machines (ring_of g) o ∙ has.machines;
  same = e;
}
