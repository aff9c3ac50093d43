-- A survey and a count after all events of a book.
use Rattle.std.proofs.Common.{◌≡◌, ℕ, ◌+◌, ◌≤◌, false, List, [], ◌∷◌, ◌++◌, length, ◌∙◌, ap, arith, length-append}
use Rattle.std.specs.Prelude.{◌==◌}
use Rattle.std.proofs.lemmas.Bool.{cond-true, eq-eqb}
use Rattle.std.proofs.lemmas.List.Elements.{filter-append}
use Rattle.ring_model.specs.Ring.{first_privileged, is_settled, privileged_count, rest}
use Rattle.ring_model.specs.History.{Works, State, opening}
use Rattle.ring_model.specs.Logs.{calls_of}
use Rattle.ring_model.specs.Surveys.{calm, survey_at}
use Rattle.ring_model.specs.declared.events.Event.{Event}
use Rattle.ring_model.specs.declared.events.Op.{Op}
use Rattle.ring_model.specs.declared.events.Op.TheVariants.{Corrupt}
use Rattle.ring_model.specs.declared.events.Receipt.{Receipt}
use Rattle.ring_model.specs.declared.events.Survey.{Survey}
use Rattle.ring_model.proofs.Histories.{calm-push, calm_next}
use Rattle.ring_book.specs.BookView.{BookView, IsBook, IsRecorded}
use Rattle.ring_book.proofs.Growth.{survey_end}
use Rattle.ring_book.proofs.Repairing.{rest_left}
use Rattle.wrong_bodies.proofs.Calls.{corruption_is_told}

-- a survey has the state now
pub survey_here : {C : Type 0} (w : Works C) (first : C) (b : BookView C) → IsBook w first b → survey_at w (opening b.start first) b.history (length b.history) ≡ record {
  position = length b.history;
  privileged = privileged_count b.now.ring.values;
  first = first_privileged b.now.ring.values;
  calm = calm b.history;
  rest = rest b.now.ring;
}
survey_here {C = C} w first b k =
    survey_end w (opening b.start first) b.history ∙ ap (λ (s : State C). let told : Survey = record {
      position = length b.history;
      privileged = privileged_count s.ring.values;
      first = first_privileged s.ring.values;
      calm = calm b.history;
      rest = rest s.ring;
    } in told) k.current

-- and its rest
pub rest_here : {C : Type 0} (w : Works C) (first : C) (b : BookView C) → IsBook w first b → (survey_at w (opening b.start first) b.history (length b.history)).rest ≡ rest b.now.ring
rest_here w first b k = ap (λ (s : Survey). s.rest) (survey_here w first b k)

-- a ring that is not settled has a rest
pub open_rest : {C : Type 0} (w : Works C) (first : C) (b : BookView C) → IsBook w first b → is_settled b.now.ring.values ≡ false →
    1 ≤ (survey_at w (opening b.start first) b.history (length b.history)).rest
open_rest w first b k unsettled =
    let here : (survey_at w (opening b.start first) b.history (length b.history)).rest ≡ rest b.now.ring = rest_here w first b k in
    let some = rest_left w first b k unsettled in
    omega arith

-- a survey has the calm of the history
pub calm_here : {C : Type 0} (w : Works C) (a : State C) (h : List Event) → (survey_at w a h (length h)).calm ≡ calm h
calm_here w a h = ap (λ (s : Survey). s.calm) (survey_end w a h)

-- which a corruption ends
pub no_calm : {C : Type 0} (w : Works C) (a : State C) (old new : BookView C) (seat machine value : ℕ) (r : Receipt) (s : Survey) →
    s ≡ survey_at w a new.history (length new.history) → IsRecorded w old new seat (Corrupt machine value) r → s.calm ≡ 0
no_calm w a old new seat machine value r s e h =
    ap (λ (t : Survey). t.calm) e
    ∙ (calm_here w a new.history ∙ (ap calm h.grown ∙ (calm-push old.history r.event ∙ ap (calm_next (calm old.history)) (corruption_is_told w old new seat machine value r h))))

-- each call of a seat is one more
calls_more : (seat : ℕ) (h : List Event) (e : Event) → e.seat ≡ seat → length (calls_of seat (h ++ e ∷ [])) ≡ length (calls_of seat h) + 1
calls_more seat h e own =
    let here : calls_of seat (e ∷ []) ≡ e ∷ [] = cond-true (e.seat == seat) (e ∷ []) [] (eq-eqb e.seat seat own) in
    let both : calls_of seat (h ++ e ∷ []) ≡ calls_of seat h ++ calls_of seat (e ∷ []) = filter-append (λ (d : Event). d.seat == seat) h (e ∷ []) in
    ap length (both ∙ ap (λ (xs : List Event). calls_of seat h ++ xs) here) ∙ length-append (calls_of seat h) (e ∷ [])

pub one_call_more : {C : Type 0} (w : Works C) (old new : BookView C) (seat : ℕ) (op : Op) (r : Receipt) → IsRecorded w old new seat op r →
    length (calls_of seat new.history) ≡ length (calls_of seat old.history) + 1
one_call_more w old new seat op r h = ap (λ (x : List Event). length (calls_of seat x)) h.grown ∙ calls_more seat old.history r.event h.of_seat
