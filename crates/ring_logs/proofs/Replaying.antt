-- One event more of a history that is played again.
use Rattle.std.proofs.Common.{Bool, IsTrue, ◌↔◌, ◌≡◌, ℕ, ◌+◌, List, [], ◌∷◌, ◌++◌, true, false, cond, Some, slice_get, take, drop, zero, suc, subst, ap, sym, ◌∙◌, refl}
use Rattle.std.proofs.lemmas.List.{take-append-drop}
use Rattle.std.proofs.Math.Numerals.{add-one}
use Rattle.ring_model.specs.Ring.{Ring, is_privileged, moved}
use Rattle.ring_model.specs.History.{Works, State, StepOf, opening, granted_state, next, after, IsLegal}
use Rattle.ring_model.specs.Surveys.{calm, survey_at, survey_from}
use Rattle.ring_model.specs.declared.events.Op.{Op}
use Rattle.ring_model.specs.declared.events.Op.TheVariants.{Pass, Member, Corrupt}
use Rattle.ring_model.specs.declared.events.Reply.{Reply}
use Rattle.ring_model.specs.declared.events.Reply.TheVariants.{Granted, NotPrivileged, Corrupted}
use Rattle.ring_model.specs.declared.events.Event.{Event}
use Rattle.ring_model.proofs.Histories.{after-push, calm-push, calm_next, legal_step}
use Rattle.ring_model.specs.Groups.{left_of, left_after}
use Rattle.ring_model.specs.declared.events.Survey.{Survey}
use Rattle.ring_model.proofs.Wholes.{left_behind}
use Rattle.ring_book.specs.BookView.{BookView}
use Rattle.ring_logs.specs.Replays.{IsCallOf, called, calm_after}

pub drop_at : (p : ℕ) (h : List Event) (e : Event) → slice_get h p ≡ Some e → drop p h ≡ e ∷ drop (suc p) h
drop_at p [] e at = cc
drop_at zero (x ∷ h) e at = let same : x ≡ e = cc in ap (λ (y : Event). y ∷ h) same
drop_at (suc p) (x ∷ h) e at = drop_at p h e at

pub take_at : (p : ℕ) (h : List Event) (e : Event) → slice_get h p ≡ Some e → take (p + 1) h ≡ take p h ++ e ∷ []
take_at p h e at = rw (add-one p) (go p h e at)
  where
    go : (p : ℕ) (h : List Event) (e : Event) → slice_get h p ≡ Some e → take (suc p) h ≡ take p h ++ e ∷ []
    go p [] e at = cc
    go zero (x ∷ h) e at = let same : x ≡ e = cc in ap (λ (y : Event). y ∷ []) same
    go (suc p) (x ∷ h) e at = ap (λ (xs : List Event). x ∷ xs) (go p h e at)

call_of_step : {C : Type 0} (w : Works C) (a : State C) (o : Op) (r : Reply) (b : State C) → StepOf w a o r b → IsCallOf a.ring o
call_of_step w a (Pass i order) (Granted number result) b s = s.0
call_of_step w a (Pass i order) NotPrivileged b s = s.0
call_of_step w a (Pass i order) (Corrupted old) b s = absurd s
call_of_step w a (Member i order left) (Granted number result) b s = s.0
call_of_step w a (Member i order left) NotPrivileged b s = absurd s
call_of_step w a (Member i order left) (Corrupted old) b s = absurd s
call_of_step w a (Corrupt i v) (Granted number result) b s = absurd s
call_of_step w a (Corrupt i v) NotPrivileged b s = absurd s
call_of_step w a (Corrupt i v) (Corrupted old) b s = (s.0, s.1)

-- an event of a legal history is a call of the ring there
pub call_there : {C : Type 0} (w : Works C) (a : State C) (h : List Event) (p : ℕ) (e : Event) (ring : Ring) → IsLegal w a h → slice_get h p ≡ Some e →
    ring ≡ (after w a (take p h)).ring → IsCallOf ring e.op
call_there w a h p e ring legal at is =
    let whole : h ≡ take p h ++ e ∷ drop (suc p) h = sym (take-append-drop p h) ∙ ap (λ (xs : List Event). take p h ++ xs) (drop_at p h e at) in
    let legal' : IsLegal w a (take p h ++ e ∷ drop (suc p) h) = subst (λ (xs : List Event). IsLegal w a xs) whole legal in
    subst (λ (r : Ring). IsCallOf r e.op) (sym is) (call_of_step w (after w a (take p h)) e.op e.reply _ (legal_step w a (take p h) e (drop (suc p) h) legal'))

pub next_ring : {C : Type 0} (w : Works C) (a : State C) (o : Op) → (next w a o).ring ≡ called a.ring o
next_ring w a (Pass i order) = elim (is_privileged a.ring.values i) as (λ b. (cond b (granted_state w a i order) a).ring ≡ cond b (moved a.ring i) a.ring) [ true ↦ refl | false ↦ refl ]
next_ring w a (Member i order left) = elim (is_privileged a.ring.values i) as (λ b. (cond b (granted_state w a i order) a).ring ≡ cond b (moved a.ring i) a.ring) [ true ↦ refl | false ↦ refl ]
next_ring w a (Corrupt i v) = refl

-- the ring one place on
pub ring_there : {C : Type 0} (w : Works C) (a : State C) (h : List Event) (p : ℕ) (e : Event) (ring : Ring) → slice_get h p ≡ Some e →
    ring ≡ (after w a (take p h)).ring → called ring e.op ≡ (after w a (take (p + 1) h)).ring
ring_there {C = C} w a h p e ring at is =
    ap (λ (r : Ring). called r e.op) is
    ∙ sym (ap (λ (xs : List Event). (after w a xs).ring) (take_at p h e at) ∙ (ap (λ (s : State C). s.ring) (after-push w a (take p h) e) ∙ next_ring w (after w a (take p h)) e.op))

pub calm_same : (c : ℕ) (r : Reply) → calm_after c r ≡ calm_next c r
calm_same c (Granted number result) = refl
calm_same c NotPrivileged = refl
calm_same c (Corrupted old) = refl

-- the calm one place on
pub calm_there : (h : List Event) (p : ℕ) (e : Event) (c : ℕ) → slice_get h p ≡ Some e → c ≡ calm (take p h) → calm_after c e.reply ≡ calm (take (p + 1) h)
calm_there h p e c at is =
    calm_same c e.reply ∙ (ap (λ (n : ℕ). calm_next n e.reply) is ∙ sym (ap calm (take_at p h e at) ∙ calm-push (take p h) e))

-- the members left of a group one place on
pub left_there : (h : List Event) (p : ℕ) (e : Event) → slice_get h p ≡ Some e → left_of e.op ≡ left_after (take (p + 1) h)
left_there h p e at = sym (ap (λ (xs : List Event). left_after xs) (take_at p h e at) ∙ left_behind (take p h) e [])

-- a survey at a place that a replay has come to
pub surveyed_there : {C : Type 0} (w : Works C) (first : C) (b c : BookView C) (place position : ℕ) (s : Survey) (t : Bool) → c ≡ b → place ≡ position →
    (IsTrue t ↔ (s ≡ survey_at w (opening c.start first) c.history place) × (left_after (take place c.history) ≡ 0)) →
    (IsTrue t ↔ (s ≡ survey_at w (opening b.start first) b.history position) × (left_after (take position b.history) ≡ 0))
surveyed_there w first b c place position s t e q h =
    subst (λ x. IsTrue t ↔ (s ≡ survey_at w (opening x.start first) x.history position) × (left_after (take position x.history) ≡ 0)) e
    (subst (λ p. IsTrue t ↔ (s ≡ survey_at w (opening c.start first) c.history p) × (left_after (take p c.history) ≡ 0)) q h)

-- the survey of a place, of the ring and the calm there
pub survey_there : {C : Type 0} (w : Works C) (a : State C) (h : List Event) (p : ℕ) (ring : Ring) (c : ℕ) →
    ring ≡ (after w a (take p h)).ring → c ≡ calm (take p h) → survey_from ring p c ≡ survey_at w a h p
survey_there w a h p ring c ring_is calm_is = rw (calm_is, ring_is) refl
