-- The entries that a log that fits cannot lack.
use Rattle.std.proofs.Common.{◌≡◌, ℕ, take, List, [], ◌∷◌, ◌++◌, length, refl, sym, ◌∙◌, ap, arith, length-append}
use Rattle.ring_model.specs.History.{Works, State}
use Rattle.ring_model.specs.Groups.{left_after}
use Rattle.ring_model.specs.Logs.{Fits, receipts_of}
use Rattle.ring_model.specs.declared.events.Event.{Event}
use Rattle.ring_model.specs.declared.events.Receipt.{Receipt}
use Rattle.ring_model.specs.declared.events.Survey.{Survey}
use Rattle.ring_model.specs.declared.events.Entry.{Entry}
use Rattle.ring_model.specs.declared.events.Entry.TheVariants as entry

receipts_end : (front : List Entry) (r : Receipt) → receipts_of (front ++ entry.Receipt r ∷ []) ≡ receipts_of front ++ r.event ∷ []
receipts_end [] r = refl
receipts_end (entry.Receipt q ∷ front) r = ap (λ (es : List Event). q.event ∷ es) (receipts_end front r)
receipts_end (entry.Survey s ∷ front) r = receipts_end front r

pub no_call_is_lost : {C : Type 0} (w : Works C) (a : State C) (h : List Event) (seat : ℕ) (front : List Entry) (r : Receipt) → Fits w a h seat (front ++ entry.Receipt r ∷ []) →
    Fits w a h seat front → ⊥
no_call_is_lost w a h seat front r whole cut =
    let same : receipts_of front ++ r.event ∷ [] ≡ receipts_of front = sym (receipts_end front r) ∙ (whole.calls ∙ sym cut.calls) in
    let long = ap length same in
    let more = length-append (receipts_of front) (r.event ∷ []) in
    omega arith

pub no_survey_is_inside : {C : Type 0} (w : Works C) (a : State C) (h : List Event) (seat : ℕ) (s : Survey) → Fits w a h seat (entry.Survey s ∷ []) → left_after (take s.position h) ≡ 0
no_survey_is_inside w a h seat s fits = fits.entries.1.2
