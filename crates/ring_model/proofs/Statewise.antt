-- A history is legal exactly where some list of states runs through it, and that list is unique.
use Rattle.std.proofs.Common.{◌≡◌, ℕ, zero, suc, ◌+◌, ◌≤◌, List, [], ◌∷◌, length, take, refl, sym, ◌∙◌, ap, arith}
use Rattle.std.specs.Prelude.{Some, slice_get}
use Rattle.ring_model.specs.History.{Works, State, next, after, IsLegal}
use Rattle.ring_model.specs.Statewise.{RunsThrough, LegalWhereRuns, StatesAreUnique, StatesAreAfter}
use Rattle.ring_model.specs.declared.events.Event.{Event}
use Rattle.ring_model.proofs.Histories.{StepOf-next}

-- the states that the calls determine
abbrev pub states_of : {C : Type 0} → Works C → State C → List Event → List (State C)
states_of w a [] = a ∷ []
states_of w a (e ∷ es) = a ∷ states_of w (next w a e.op) es

pub runs_of_legal : {C : Type 0} (w : Works C) (a : State C) (es : List Event) → IsLegal w a es → RunsThrough w a es (states_of w a es)
runs_of_legal w a [] h = refl
runs_of_legal w a (e ∷ es) h = (next w a e.op, h.0, (states_of w (next w a e.op) es, refl, runs_of_legal w (next w a e.op) es h.1))

pub legal_of_runs : {C : Type 0} (w : Works C) (a : State C) (es : List Event) (states : List (State C)) → RunsThrough w a es states → IsLegal w a es
legal_of_runs w a [] states r = tt
legal_of_runs w a (e ∷ es) states r =
    let goes : r.0 ≡ next w a e.op = StepOf-next w a e.op e.reply r.0 r.1 in
    (rw (← goes) r.1, rw (← goes) (legal_of_runs w r.0 es r.2.0 r.2.2))

pub states_unique : {C : Type 0} (w : Works C) (a : State C) (es : List Event) (states : List (State C)) → RunsThrough w a es states → states ≡ states_of w a es
states_unique w a [] states r = r
states_unique w a (e ∷ es) states r =
    let goes : r.0 ≡ next w a e.op = StepOf-next w a e.op e.reply r.0 r.1 in
    r.2.1 ∙ rw (← goes) (ap (λ rest. a ∷ rest) (states_unique w r.0 es r.2.0 r.2.2))

pub length_states : {C : Type 0} (w : Works C) (a : State C) (es : List Event) → length (states_of w a es) ≡ length es + 1
length_states w a [] = refl
length_states w a (e ∷ es) = omega (arith, length_states w (next w a e.op) es)

-- the state at each place is that after the events before it
pub state_at : {C : Type 0} (w : Works C) (a : State C) (es : List Event) (p : ℕ) → p ≤ length es → slice_get (states_of w a es) p ≡ Some (after w a (take p es))
state_at w a [] zero l = refl
state_at w a [] (suc p) l = absurd (omega arith)
state_at w a (e ∷ es) zero l = refl
state_at w a (e ∷ es) (suc p) l = state_at w (next w a e.op) es p (omega arith)

pub legal_where_runs : {C : Type 0} → LegalWhereRuns C
legal_where_runs w a h = ((λ l. (states_of w a h, runs_of_legal w a h l)), λ states r. legal_of_runs w a h states r)

pub states_are_unique : {C : Type 0} → StatesAreUnique C
states_are_unique w a h states others r o = states_unique w a h states r ∙ sym (states_unique w a h others o)

pub states_are_after : {C : Type 0} → StatesAreAfter C
states_are_after w a h states r = rw (states_unique w a h states r) (length_states w a h, state_at w a h)
