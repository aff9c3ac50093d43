-- A replay proceeds, event by event.
use Rattle.std.proofs.Common.{◌≡◌, ℕ, ◌+◌, ◌<◌, ◌≤◌, List, [], ◌∷◌, ◌++◌, length, take, drop, get_or, map, refl, sym, ◌∙◌, ap, subst, arith, length-take}
use Rattle.std.proofs.lemmas.List.{take_more, drop_more, take-append-drop, map-append, take_all, length-map}
use Rattle.ring_model.specs.declared.events.Op.{Op}
use Rattle.ring_model.specs.declared.events.Op.TheVariants.{Pass, Member, Corrupt}
use Rattle.ring_model.specs.declared.events.Reply.{Reply}
use Rattle.ring_model.specs.declared.events.Reply.TheVariants.{Granted, NotPrivileged, Corrupted}
use Rattle.ring_model.specs.declared.events.Event.{Event}
use Rattle.ring_model.specs.Ring.{ring_with}
use Rattle.ring_model.specs.History.{State, Step, StepOf, opening, next, after, IsLegal}
use Rattle.ring_model.specs.Resources.{till}
use Rattle.ring_model.specs.Replay.{till_state, machine_of}
use Rattle.ring_model.specs.Surveys.{calm}
use Rattle.ring_model.proofs.Histories.{calm_next, after-push, legal_step, calm-push, grants-after}
use Rattle.saved_history.specs.declared.saved.SavedEvent.{SavedEvent}
use Rattle.ring_check.specs.Table.{event_of}

-- after the first i events
pub record Stands (k : ℕ) (start : List ℕ) (es : List SavedEvent) (i : ℕ) (values : List ℕ) (amount grants c : ℕ) : Type 0 where
  pub state : after till (opening (ring_with k start) 0) (map event_of (take i es)) ≡ till_state (ring_with k values) amount grants
  pub calm : c ≡ calm (map event_of (take i es))
  pub few : c ≤ i

step_within : (a : State ℕ) (o : Op) (r : Reply) (b : State ℕ) → StepOf till a o r b → machine_of o < length a.ring.values
step_within a (Pass i order) (Granted number result) b h = h.0
step_within a (Pass i order) NotPrivileged b h = h.0
step_within a (Pass i order) (Corrupted old) b h = absurd h
step_within a (Member i order left) (Granted number result) b h = h.0
step_within a (Member i order left) NotPrivileged b h = absurd h
step_within a (Member i order left) (Corrupted old) b h = absurd h
step_within a (Corrupt i v) (Granted number result) b h = absurd h
step_within a (Corrupt i v) NotPrivileged b h = absurd h
step_within a (Corrupt i v) (Corrupted old) b h = h.0

calm_next_few : (c : ℕ) (r : Reply) (i : ℕ) → c ≤ i → calm_next c r ≤ i + 1
calm_next_few c (Granted number result) i le = omega arith
calm_next_few c NotPrivileged i le = omega arith
calm_next_few c (Corrupted old) i le = omega arith

pub stands_first : (k : ℕ) (start : List ℕ) (es : List SavedEvent) (values : List ℕ) → values ≡ start → Stands k start es 0 values 0 0 0
stands_first k start es values e = record { state = ap (λ (x : List ℕ). till_state (ring_with k x) 0 0) (sym e); calm = refl; few = omega arith }

module _ (k : ℕ) (start : List ℕ) (es : List SavedEvent) (i : ℕ) (d : SavedEvent) (values : List ℕ) (amount grants c : ℕ) (lt : i < length es)
    (legal : IsLegal till (opening (ring_with k start) 0) (map event_of es)) (at : Stands k start es i values amount grants c) where
  pub step_here : Step till (till_state (ring_with k values) amount grants) (event_of (get_or es i d)) (next till (till_state (ring_with k values) amount grants) (event_of (get_or es i d)).op)
  step_here =
      let cut : es ≡ take i es ++ get_or es i d ∷ drop (i + 1) es = sym (take-append-drop i es) ∙ ap (λ (u : List SavedEvent). take i es ++ u) (drop_more es i d lt) in
      let parts : map event_of es ≡ map event_of (take i es) ++ event_of (get_or es i d) ∷ map event_of (drop (i + 1) es) =
      ap (λ (u : List SavedEvent). map event_of u) cut ∙ map-append event_of (take i es) (get_or es i d ∷ drop (i + 1) es) in
      let here = legal_step till (opening (ring_with k start) 0) (map event_of (take i es)) (event_of (get_or es i d)) (map event_of (drop (i + 1) es))
      (subst (λ (u : List Event). IsLegal till (opening (ring_with k start) 0) u) parts legal) in
      subst (λ (x : State ℕ). Step till x (event_of (get_or es i d)) (next till x (event_of (get_or es i d)).op)) at.state here

  pub machine_within : machine_of (event_of (get_or es i d)).op < length values
  machine_within = let e = event_of (get_or es i d) in
      step_within (till_state (ring_with k values) amount grants) e.op e.reply (next till (till_state (ring_with k values) amount grants) e.op) step_here

  pub stands_on : (vs : List ℕ) (a g : ℕ) → till_state (ring_with k vs) a g ≡ next till (till_state (ring_with k values) amount grants) (event_of (get_or es i d)).op →
      Stands k start es (i + 1) vs a g (calm_next c (event_of (get_or es i d)).reply)
  stands_on vs a g h =
      let e = event_of (get_or es i d) in
      let push : map event_of (take (i + 1) es) ≡ map event_of (take i es) ++ e ∷ [] =
      ap (λ (u : List SavedEvent). map event_of u) (take_more es i d lt) ∙ map-append event_of (take i es) (get_or es i d ∷ []) in
      record {
        state = ap (λ (u : List Event). after till (opening (ring_with k start) 0) u) push ∙ after-push till (opening (ring_with k start) 0) (map event_of (take i es)) e ∙ ap (λ (x : State ℕ). next till x e.op) at.state ∙ sym h;
        calm = ap (λ (x : ℕ). calm_next x e.reply) at.calm ∙ sym (calm-push (map event_of (take i es)) e) ∙ ap (λ (u : List Event). calm u) (sym push);
        few = calm_next_few c e.reply i at.few;
      }

pub grants_few : (k : ℕ) (start : List ℕ) (es : List SavedEvent) (i : ℕ) (values : List ℕ) (amount grants c : ℕ) → i < length es → Stands k start es i values amount grants c → grants ≤ i
grants_few k start es i values amount grants c lt at =
    let few = grants-after till (opening (ring_with k start) 0) (map event_of (take i es)) in
    let same : (after till (opening (ring_with k start) 0) (map event_of (take i es))).grants ≡ grants = ap (λ (x : State ℕ). x.grants) at.state in
    let many = length-map (take i es) event_of in
    let cut = length-take i es in
    omega (arith, few, same, many, cut, lt)

-- after all of them
pub stands_all : (k : ℕ) (start : List ℕ) (es : List SavedEvent) (i : ℕ) (values : List ℕ) (amount grants c : ℕ) → length es ≤ i → Stands k start es i values amount grants c →
    (after till (opening (ring_with k start) 0) (map event_of es) ≡ till_state (ring_with k values) amount grants) × (c ≡ calm (map event_of es))
stands_all k start es i values amount grants c le at =
    let all : take i es ≡ es = take_all i es le in
    (ap (λ (u : List SavedEvent). after till (opening (ring_with k start) 0) (map event_of u)) (sym all) ∙ at.state, at.calm ∙ ap (λ (u : List SavedEvent). calm (map event_of u)) all)
