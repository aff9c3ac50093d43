-- The turn of a call that a ring refuses, of a group that it lets pass, and of a survey.
use Rattle.std.proofs.Common.{◌≡◌, ℕ, ◌+◌, List, [], ◌∷◌, ◌++◌, length, drop, Option, Some, None, sym, ap, ◌∙◌, ◌⊎◌, inl, inr}
use Rattle.std.proofs.lemmas.List.{drop_at}
use Rattle.ring_model.specs.History.{State}
use Rattle.ring_model.specs.declared.events.Event.{Event}
use Rattle.ring_model.specs.declared.events.Survey.{Survey}
use Rattle.endless_ring.specs.Endless.{EndlessView, IsEndless, IsGrouped, IsSurveyed, local_survey}
use Rattle.ring_book.specs.declared.books.groups.GroupReceipt.{GroupReceipt}
use Rattle.ring_service.specs.Commands.{group, survey}
use Rattle.ring_service.specs.declared.answers.Answer.TheVariants as answer
use Rattle.ring_service.specs.declared.turns.CallAnswer.{CallAnswer}
use Rattle.ring_service.specs.declared.turns.Trace.TheVariants as trace
use Rattle.ring_service.specs.Standings.{Standing, standing_of, block_now, survey_now, shifted_survey_now, with_survey}
use Rattle.one_thread_ring.specs.Refusals.{Bounds, bounds_of, seat_refusal, group_refusal}
use Rattle.one_thread_ring.specs.declared.errors.CallError.{CallError}
use Rattle.one_thread_ring.specs.declared.errors.CallError.TheVariants as call
use Rattle.ring_service.specs.Turns.{Turn, refused, refusal_of, unless, bounds_now, grouped, turn_seen, IsTurnAt, events, surveyed}
use Rattle.ring_service.specs.declared.answers.Refusal.TheVariants as refusal
use Rattle.ring_service.proofs.Making.{state_is, group_leaves}

-- the bounds of a call are those of the ring
pub bounds_is : (d : EndlessView) → IsEndless d → bounds_now (standing_of d) ≡ bounds_of d.ring
bounds_is d ring =
    ap (λ (s : State ℕ). record { seats = length d.ring.clients; ring = s.ring; events = length d.ring.book.history }) (state_is d ring)

-- a call that a ring refuses: the turn is that refusal
pub refused_turn : (d d' : EndlessView) (at : ℕ) (why : Bounds → Option CallError) (e : CallError) (m : CallAnswer) (t : Turn Standing) → IsEndless d →
    m ≡ record { answer = answer.Refused (refusal_of e); trace = trace.Nothing } → d' ≡ d → (why (bounds_of d.ring) ≡ Some e) ⊎ ((why (bounds_of d.ring) ≡ None) × (e ≡ call.OutOfMemory)) →
    (turn_seen at (standing_of d') m ≡ unless (why (bounds_now (standing_of d))) (standing_of d) t) ⊎ (turn_seen at (standing_of d') m ≡ refused (standing_of d) refusal.OutOfMemory)
refused_turn d d' at why e m t ring is same (inl q) =
    let seen : turn_seen at (standing_of d') m ≡ refused (standing_of d) (refusal_of e) =
    λ i. turn_seen at (standing_of (same i)) (is i) in
    let now : why (bounds_now (standing_of d)) ≡ Some e = ap why (bounds_is d ring) ∙ q in
    inl (seen ∙ sym (ap (λ (x : Option CallError). unless x (standing_of d) t) now))
refused_turn d d' at why e m t ring is same (inr q) =
    let seen : turn_seen at (standing_of d') m ≡ refused (standing_of d) (refusal_of e) =
    λ i. turn_seen at (standing_of (same i)) (is i) in
    inr (seen ∙ ap (λ (x : CallError). refused (standing_of d) (refusal_of x)) q.1)

-- the events after a place
pub behind : (h es all : List Event) (from : ℕ) → all ≡ h ++ es → from ≡ length h → drop from all ≡ es
behind h es all from e l = ap (λ (x : List Event). drop from x) e ∙ drop_at h es from (sym l)

-- a group that passes
pub passed_group : (e e' : EndlessView) (at from seat order : ℕ) (machines : List ℕ) (r : GroupReceipt) → IsEndless e → IsGrouped e e' seat order machines r →
    from ≡ length e.ring.book.history → group_refusal (bounds_of e.ring) seat machines ≡ None →
    IsTurnAt (standing_of e) (group at seat order machines) (turn_seen at (standing_of e') (record { answer = answer.Block r.first r.count; trace = trace.Events from }))
passed_group e e' at from seat order machines r ring g start q =
    let leaves = group_leaves e e' seat order machines r ring g in
    let cut : drop from e'.ring.book.history ≡ block_now (standing_of e) seat order machines = behind e.ring.book.history (block_now (standing_of e) seat order machines) e'.ring.book.history from (ap (λ (x : Standing). x.history) leaves) start in
    let first : r.first ≡ e.base.events + length e.ring.book.history = g.first ∙ ap (λ (n : ℕ). e.base.events + n) g.recorded.first in
    let count : r.count ≡ length machines = g.count ∙ g.recorded.count in
    let same : turn_seen at (standing_of e') (record { answer = answer.Block r.first r.count; trace = trace.Events from }) ≡ grouped at (standing_of e) seat order machines
    = λ i. record { answer = answer.Block (first i) (count i); recorded = events at (cut i) ∷ []; leaves = leaves i } in
    let now : group_refusal (bounds_now (standing_of e)) seat machines ≡ None = ap (λ (b : Bounds). group_refusal b seat machines) (bounds_is e ring) ∙ q in
    inl (same ∙ sym (ap (λ (x : Option CallError). unless x (standing_of e) (grouped at (standing_of e) seat order machines)) now))

-- a survey that a seat is given
pub surveyed_turn : (e e' : EndlessView) (at seat : ℕ) (s local : Survey) → IsEndless e → IsSurveyed e e' seat s → local ≡ local_survey e.ring → seat_refusal (bounds_of e.ring) seat ≡ None →
    IsTurnAt (standing_of e) (survey at seat) (turn_seen at (standing_of e') (record { answer = answer.Survey s; trace = trace.Survey seat local }))
surveyed_turn e e' at seat s local ring g is q =
    let r : Standing = standing_of e in
    let turn : Turn Standing = record { answer = answer.Survey (shifted_survey_now r); recorded = surveyed at seat (survey_now r) ∷ []; leaves = with_survey r seat (survey_now r) } in
    let leaves : standing_of e' ≡ with_survey r seat (survey_now r) = λ i. record { base = g.base i; start = (g.book i).start; history = (g.book i).history; clients = g.logged i } in
    let same : turn_seen at (standing_of e') (record { answer = answer.Survey s; trace = trace.Survey seat local }) ≡ turn
    = λ i. record { answer = answer.Survey (g.shifted i); recorded = surveyed at seat (is i) ∷ []; leaves = leaves i } in
    let now : seat_refusal (bounds_now r) seat ≡ None = ap (λ (b : Bounds). seat_refusal b seat) (bounds_is e ring) ∙ q in
    inl (same ∙ sym (ap (λ (x : Option CallError). unless x r turn) now))
