-- The data that determine a farm's logs.
use Rattle.std.proofs.Common.{◌≡◌, ℕ, ◌+◌, List, [], ◌∷◌, Some, slice_get, refl, ap, sym, ◌∙◌, subst}
use Rattle.std.proofs.lemmas.Option.{same_Some, slice_get_within, get_or_from_slice_get}
use Rattle.std.proofs.lemmas.List.Elements.{All-get_or}
use Rattle.ring_model.specs.History.{Works, State, opening}
use Rattle.ring_model.specs.Logs.{Fits, IsFollowed}
use Rattle.ring_model.specs.Surveys.{survey_at}
use Rattle.ring_model.specs.Resources.{till}
use Rattle.ring_model.specs.declared.events.Op.{Op}
use Rattle.ring_model.specs.declared.events.Op.TheVariants.{Pass, Member, Corrupt}
use Rattle.ring_model.specs.declared.events.Event.{Event}
use Rattle.ring_model.specs.declared.events.Survey.{Survey}
use Rattle.ring_model.specs.declared.events.Receipt.{Receipt}
use Rattle.ring_model.specs.declared.events.Entry.{Entry}
use Rattle.ring_model.specs.declared.events.Entry.TheVariants as entry
use Rattle.ring_settings.specs.Contents.{RingData}
use Rattle.ring_settings.specs.declared.actions.Action.TheVariants as action
use Rattle.ring_logs.specs.declared.logs.Log.{Log}
use Rattle.ring_logs.specs.declared.outcomes.RingOutcome.{RingOutcome}
use Rattle.ring_farm.specs.Headline.{AreRight}
use Rattle.ring_farm.specs.Plans.{action_of_op, actions_of}
use Rattle.ring_farm.specs.Runs.{ring_of_data}
use Rattle.ring_farm.specs.OneOutcome.{places, LogsFollow}

-- no receipt reads as a survey
no_survey : (ring : ℕ) (o : Op) → action_of_op ring o ≡ Some (action.Survey ring) → ⊥
no_survey ring (Pass machine order) e = cc (e)
no_survey ring (Member machine order left) e = cc (e)
no_survey ring (Corrupt machine value) e = cc (e)

abbrev receipt_with : ℕ → Event → Receipt
receipt_with p e = record { position = p; event = e }

-- two logs that are right in one history, with the same actions at the same places, are the same
logs_alike : {C : Type 0} (w : Works C) (a : State C) (h : List Event) (ring front back : ℕ) (ls ms : List Entry) → IsFollowed w a h front ls → IsFollowed w a h back ms →
    actions_of ring ls ≡ actions_of ring ms → places ls ≡ places ms → ls ≡ ms
logs_alike w a h ring front back [] [] l m e p = refl
logs_alike w a h ring front back [] (y ∷ ms) l m e p = absurd (cc (p))
logs_alike w a h ring front back (x ∷ ls) [] l m e p = absurd (cc (p))
logs_alike w a h ring front back (entry.Receipt r ∷ ls) (entry.Survey t ∷ ms) l m e p = absurd (no_survey ring r.event.op (cc (e)))
logs_alike w a h ring front back (entry.Survey s ∷ ls) (entry.Receipt q ∷ ms) l m e p = absurd (no_survey ring q.event.op (cc (e)))
logs_alike w a h ring front back (entry.Receipt r ∷ ls) (entry.Receipt q ∷ ms) l m e p =
    let place : r.position ≡ q.position = cc (p) in
    let event : r.event ≡ q.event = same_Some r.event q.event (sym l.1 ∙ (ap (λ (i : ℕ). slice_get h i) place ∙ m.1)) in
    let one : receipt_with r.position r.event ≡ receipt_with q.position q.event =
    ap (λ (i : ℕ). receipt_with i r.event) place ∙ ap (λ (x : Event). receipt_with q.position x) event in
    let rest : ls ≡ ms = logs_alike w a h ring (r.position + 1) (q.position + 1) ls ms l.2 m.2 (cc (e)) (cc (p)) in
    ap (λ (x : Receipt). entry.Receipt x ∷ ls) one ∙ ap (λ (xs : List Entry). entry.Receipt q ∷ xs) rest
logs_alike w a h ring front back (entry.Survey s ∷ ls) (entry.Survey t ∷ ms) l m e p =
    let place : s.position ≡ t.position = cc (p) in
    let one : s ≡ t = l.1.1 ∙ (ap (λ (i : ℕ). survey_at w a h i) place ∙ sym m.1.1) in
    let rest : ls ≡ ms = logs_alike w a h ring s.position t.position ls ms l.2 m.2 (cc (e)) (cc (p)) in
    ap (λ (x : Survey). entry.Survey x ∷ ls) one ∙ ap (λ (xs : List Entry). entry.Survey t ∷ xs) rest

-- the log of a seat is right
pub right_at : (d : RingData) (r : RingOutcome) (seat : ℕ) (l : Log) → AreRight d r → slice_get r.logs.items seat ≡ Some l →
    Fits till (opening (ring_of_data d) 0) r.book.history l.seat l.entries.items
right_at d r seat l right at =
    let FitsThere : Log → Type 0 = λ (x : Log). Fits till (opening (ring_of_data d) 0) r.book.history x.seat x.entries.items in
    subst FitsThere (get_or_from_slice_get r.logs.items seat l l at) (All-get_or FitsThere r.logs.items seat l (slice_get_within r.logs.items seat l at) right)

pub logs_follow : LogsFollow
logs_follow settings ring d one other h k history seat l m at there places =
    let mine = h.logs.each seat l at in
    let yours = k.logs.each seat m there in
    let fits = right_at d one seat l h.right at in
    let fit : IsFollowed till (opening (ring_of_data d) 0) one.book.history 0 m.entries.items =
    subst (λ (x : List Event). IsFollowed till (opening (ring_of_data d) 0) x 0 m.entries.items) (sym history) (right_at d other seat m k.right there).entries in
    (mine.0 ∙ sym yours.0, logs_alike till (opening (ring_of_data d) 0) one.book.history ring 0 0 l.entries.items m.entries.items fits.entries fit (mine.1 ∙ sym yours.1) places)
