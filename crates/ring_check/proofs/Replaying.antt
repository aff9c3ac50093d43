-- A replay proceeds, event by event.
use Rattle.std.proofs.Common.{◌≡◌, ℕ, ◌+◌, ◌<◌, ◌≤◌, List, [], ◌∷◌, ◌++◌, length, take, drop, get_or, map, refl, sym, ◌∙◌, ap, subst, arith}
use Rattle.std.proofs.lemmas.List.{take_more, drop_more, take-append-drop, take-map, map-append}
use Rattle.ring_model.specs.declared.events.Event.{Event}
use Rattle.ring_model.specs.Ring.{ring_with, IsRing}
use Rattle.ring_model.specs.History.{State, Step, next, after, IsLegal}
use Rattle.ring_model.specs.Resources.{till}
use Rattle.ring_model.specs.Surveys.{calm, survey_at}
use Rattle.ring_model.proofs.Histories.{calm_next, after-push, legal_step, calm-push}
use Rattle.saved_history.specs.declared.saved.SavedEvent.{SavedEvent}
use Rattle.ring_check.specs.declared.replay.Replay.{Replay}
use Rattle.ring_check.specs.Table.{event_of, first_state}
use Rattle.ring_model.specs.declared.events.Survey.{Survey}
use Rattle.ring_check.specs.declared.surveys.Reading.{Reading}
use Rattle.ring_check.specs.Replays.{state_of, survey_where, Stands, StandsAt, Tells}
use Rattle.ring_check.proofs.Steps.{step_keeps, calm_next_le}

-- a replay is one event further than another
pub record Follows (r : Replay) (e : Event) (t : Replay) : Type 0 where
  pub state : state_of t ≡ next till (state_of r) e.op
  pub calm : t.calm ≡ calm_next r.calm e.reply

-- a replay that has just begun
pub record IsFresh (k : ℕ) (start : List ℕ) (r : Replay) : Type 0 where
  pub same_k : r.k ≡ k
  pub values : r.values.items ≡ start
  pub amount : r.amount ≡ 0
  pub grants : r.grants ≡ 0
  pub calm : r.calm ≡ 0

pub stands_first : (k : ℕ) (start : List ℕ) (es : List SavedEvent) (r : Replay) → IsRing (ring_with k start) → IsFresh k start r → StandsAt (ring_with k start) es 0 r
stands_first k start es r ring f =
    let a = f.same_k in
    let b = f.values in
    let c = f.amount in
    let d = f.grants in
    let m = f.calm in
    record {
      stands = record { state = rw (a, b, c, d) refl; same_k = a; calm = m; ring = rw (a, b) ring };
      grants = omega arith;
      calm = omega arith;
    }

-- the event at a place of a legal history is a step from the place of the replay
pub step_at : (k : ℕ) (start : List ℕ) (es : List SavedEvent) (i : ℕ) (d : SavedEvent) (r : Replay) → i < length es →
    IsLegal till (first_state (ring_with k start)) (map event_of es) → StandsAt (ring_with k start) es i r →
    Step till (state_of r) (event_of (get_or es i d)) (next till (state_of r) (event_of (get_or es i d)).op)
step_at k start es i d r lt legal at =
    let cut : es ≡ take i es ++ get_or es i d ∷ drop (i + 1) es = sym (take-append-drop i es) ∙ ap (λ (u : List SavedEvent). take i es ++ u) (drop_more es i d lt) in
    let parts : map event_of es ≡ map event_of (take i es) ++ event_of (get_or es i d) ∷ map event_of (drop (i + 1) es) =
    ap (λ (u : List SavedEvent). map event_of u) cut ∙ map-append event_of (take i es) (get_or es i d ∷ drop (i + 1) es) in
    let here = legal_step till (first_state (ring_with k start)) (map event_of (take i es)) (event_of (get_or es i d)) (map event_of (drop (i + 1) es))
    (subst (λ (u : List Event). IsLegal till (first_state (ring_with k start)) u) parts legal) in
    subst (λ (x : State ℕ). Step till x (event_of (get_or es i d)) (next till x (event_of (get_or es i d)).op)) at.stands.state here

stands_more : (k : ℕ) (start : List ℕ) (h : List Event) (r t : Replay) (e : Event) → Stands (ring_with k start) h r →
    Step till (state_of r) e (next till (state_of r) e.op) → Follows r e t → Stands (ring_with k start) (h ++ e ∷ []) t
stands_more k start h r t e s step f =
    let kept = step_keeps (state_of r) e.op e.reply s.ring step in
    record {
      state = after-push till (first_state (ring_with k start)) h e ∙ ap (λ (x : State ℕ). next till x e.op) s.state ∙ sym f.state;
      same_k = ap (λ (x : State ℕ). x.ring.k) f.state ∙ kept.same_k ∙ s.same_k;
      calm = f.calm ∙ ap (λ (x : ℕ). calm_next x e.reply) s.calm ∙ sym (calm-push h e);
      ring = subst (λ (x : State ℕ). IsRing x.ring) (sym f.state) kept.ring;
    }

-- one event further, by a step
pub stands_on : (k : ℕ) (start : List ℕ) (es : List SavedEvent) (i : ℕ) (d : SavedEvent) (r t : Replay) → i < length es → StandsAt (ring_with k start) es i r →
    Step till (state_of r) (event_of (get_or es i d)) (next till (state_of r) (event_of (get_or es i d)).op) → Follows r (event_of (get_or es i d)) t →
    StandsAt (ring_with k start) es (i + 1) t
stands_on k start es i d r t lt at step f =
    let e = event_of (get_or es i d) in
    let push : map event_of (take (i + 1) es) ≡ map event_of (take i es) ++ e ∷ [] =
    ap (λ (u : List SavedEvent). map event_of u) (take_more es i d lt) ∙ map-append event_of (take i es) (get_or es i d ∷ []) in
    let kept = step_keeps (state_of r) e.op e.reply at.stands.ring step in
    let more : t.grants ≤ r.grants + 1 = subst (λ (x : State ℕ). x.grants ≤ r.grants + 1) (sym f.state) kept.grants in
    let longer : calm_next r.calm e.reply ≤ r.calm + 1 = calm_next_le r.calm e.reply in
    let same = f.calm in
    let few = at.grants in
    let short = at.calm in
    record {
      stands = subst (λ (u : List Event). Stands (ring_with k start) u t) (sym push) (stands_more k start (map event_of (take i es)) r t e at.stands step f);
      grants = omega arith;
      calm = omega arith;
    }

-- a survey of the history is the survey of the replay that is there
pub survey_is : (k : ℕ) (start : List ℕ) (es : List SavedEvent) (p : ℕ) (r : Replay) → StandsAt (ring_with k start) es p r →
    survey_at till (first_state (ring_with k start)) (map event_of es) p ≡ survey_where r p
survey_is k start es p r at =
    let front : take p (map event_of es) ≡ map event_of (take p es) = take-map event_of p es in
    let state : after till (first_state (ring_with k start)) (take p (map event_of es)) ≡ state_of r =
    ap (λ (u : List Event). after till (first_state (ring_with k start)) u) front ∙ at.stands.state in
    let calm_is : calm (take p (map event_of es)) ≡ r.calm = ap (λ (u : List Event). calm u) front ∙ sym at.stands.calm in
    rw (state, calm_is) refl

-- a reading whose survey is right has the measures of its ring
pub tells_right : (r : Reading) (position : ℕ) → r.survey ≡ survey_where r.replay position → Tells r.survey (state_of r.replay).ring
tells_right r position e = record { privileged = ap (λ (s : Survey). s.privileged) e; first = ap (λ (s : Survey). s.first) e; rest = ap (λ (s : Survey). s.rest) e }
