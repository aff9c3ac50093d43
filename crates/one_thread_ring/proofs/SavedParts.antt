-- The lists of a block as what a ring has, item by item.
use Rattle.std.proofs.Common.{◌≡◌, ℕ, suc, ◌+◌, ◌^◌, ◌<◌, ◌≤◌, List, [], ◌∷◌, ◌++◌, length, map, refl, sym, ap, arith}
use Rattle.std.specs.List.{flat_map, slice_index, AllByRecursion}
use Rattle.std.proofs.lemmas.List.{append-nil}
use Rattle.std.proofs.lemmas.List.Concat.{flat_map-append}
use Rattle.ring_model.specs.declared.events.Event.{Event}
use Rattle.ring_model.specs.declared.events.Entry.{Entry}
use Rattle.ring_model.specs.declared.events.Entry.TheVariants as entry
use Rattle.saved_history.specs.declared.saved.SavedSurvey.{SavedSurvey}
use Rattle.saved_history.specs.Versions.{latest_version}
use Rattle.saved_history.specs.Spelling.{event_line, survey_line, EventFits, SurveyFits}
use Rattle.one_thread_ring.specs.SavedOf.{saved_event, saved_survey, entry_surveys}
use Rattle.saved_history.proofs.Passing.{Spelled}

-- ---- the values of a start

-- the values of a state are small
pub small_below : (limit : ℕ) (xs : List ℕ) → ((i : ℕ) → i < length xs → slice_index xs i < limit) → limit ≤ 2 ^ 32 → AllByRecursion (λ x. x < 2 ^ 32) xs
small_below limit [] h le = tt
small_below limit (x ∷ xs) h le =
    let first : x < limit = h 0 (omega arith) in
    (omega (arith, first, le), small_below limit xs (λ i lt. h (suc i) (omega (arith, lt))) le)

-- ---- events

abbrev pub events_text : ℕ → List Event → List ℕ
events_text i es = flat_map event_line (map saved_event es)

abbrev pub EventsFit : ℕ → List Event → Type 0
EventsFit i es = AllByRecursion (EventFits latest_version) (map saved_event es)

abbrev pub event_text : ℕ → Event → List ℕ
event_text i e = event_line (saved_event e)

abbrev pub EventFit : ℕ → Event → Type 0
EventFit i e = EventFits latest_version (saved_event e)

pub events_spelled : Spelled event_text events_text EventFit EventsFit
events_spelled = record { none = λ i. refl; next = λ i x xs. refl; fits_none = λ i. tt; fits_next = λ i x xs f h. (f, h) }

-- ---- surveys

abbrev pub surveys_text : ℕ → ℕ → List Entry → List ℕ
surveys_text seat i es = flat_map survey_line (entry_surveys seat es)

abbrev pub SurveysFit : ℕ → ℕ → List Entry → Type 0
SurveysFit seat i es = AllByRecursion SurveyFits (entry_surveys seat es)

abbrev pub entry_text : ℕ → ℕ → Entry → List ℕ
entry_text seat i e = flat_map survey_line (entry_surveys seat (e ∷ []))

abbrev pub EntryFit : ℕ → ℕ → Entry → Type 0
EntryFit seat i e = AllByRecursion SurveyFits (entry_surveys seat (e ∷ []))

pub surveys_spelled : (seat : ℕ) → Spelled (entry_text seat) (surveys_text seat) (EntryFit seat) (SurveysFit seat)
surveys_spelled seat = record { none = λ i. refl; next = next; fits_none = λ i. tt; fits_next = fits_next }
  where
    next : (i : ℕ) (e : Entry) (es : List Entry) → surveys_text seat i (e ∷ es) ≡ entry_text seat i e ++ surveys_text seat (i + 1) es
    next i (entry.Receipt r) es = refl
    next i (entry.Survey s) es = ap (λ (u : List ℕ). u ++ surveys_text seat (i + 1) es) (sym (append-nil (survey_line (saved_survey seat s))))

    fits_next : (i : ℕ) (e : Entry) (es : List Entry) → EntryFit seat i e → SurveysFit seat (i + 1) es → SurveysFit seat i (e ∷ es)
    fits_next i (entry.Receipt r) es f h = h
    fits_next i (entry.Survey s) es f h = (f.0, h)

-- ---- the logs of seats, of any type that has surveys

all_append : (xs ys : List SavedSurvey) → AllByRecursion SurveyFits xs → AllByRecursion SurveyFits ys → AllByRecursion SurveyFits (xs ++ ys)
all_append [] ys p q = q
all_append (x ∷ xs) ys p q = (p.0, all_append xs ys p.1 q)

module _ {L : Type 0} (surveys : L → List SavedSurvey) where
  abbrev pub logs_text : ℕ → List L → List ℕ
  logs_text i ls = flat_map survey_line (flat_map surveys ls)

  abbrev pub LogsFit : ℕ → List L → Type 0
  LogsFit i ls = AllByRecursion SurveyFits (flat_map surveys ls)

  abbrev pub log_text : ℕ → L → List ℕ
  log_text i l = flat_map survey_line (surveys l)

  abbrev pub LogFit : ℕ → L → Type 0
  LogFit i l = AllByRecursion SurveyFits (surveys l)

  pub logs_spelled : Spelled log_text logs_text LogFit LogsFit
  logs_spelled = record {
    none = λ i. refl;
    next = λ i l ls. flat_map-append survey_line (surveys l) (flat_map surveys ls);
    fits_none = λ i. tt;
    fits_next = λ i l ls f h. all_append (surveys l) (flat_map surveys ls) f h;
  }
