-- The lists of a saved value, item by item.
use Rattle.std.proofs.Common.{ℕ, ◌≤◌, List, map, refl}
use Rattle.std.specs.List.{flat_map, AllByRecursion}
use Rattle.saved_history.specs.declared.saved.SavedEvent.{SavedEvent}
use Rattle.saved_history.specs.declared.saved.SavedSurvey.{SavedSurvey}
use Rattle.saved_history.specs.declared.saved.SavedRing.{SavedRing}
use Rattle.saved_history.specs.Versions.{first_version}
use Rattle.saved_history.specs.Content.{block_of}
use Rattle.saved_history.specs.Spelling.{event_line, survey_line, block_text, EventFits, SurveyFits, BlockFits, IsNoMember, BlockHasNoMember}
use Rattle.saved_history.proofs.Passing.{Spelled}

abbrev pub events_text : ℕ → List SavedEvent → List ℕ
events_text i es = flat_map event_line es

abbrev pub EventsFit : ℕ → List SavedEvent → Type 0
EventsFit i es = (version : ℕ) → (version ≤ first_version → AllByRecursion IsNoMember es) → AllByRecursion (EventFits version) es

pub events_spelled : Spelled (λ i e. event_line e) events_text (λ i e. (version : ℕ) → (version ≤ first_version → IsNoMember e) → EventFits version e) EventsFit
events_spelled = record { none = λ i. refl; next = λ i x xs. refl; fits_none = λ i version none. tt; fits_next = λ i x xs f h version none. (f version (λ low. (none low).0), h version (λ low. (none low).1)) }

abbrev pub surveys_text : ℕ → List SavedSurvey → List ℕ
surveys_text i ss = flat_map survey_line ss

abbrev pub SurveysFit : ℕ → List SavedSurvey → Type 0
SurveysFit i ss = AllByRecursion SurveyFits ss

pub surveys_spelled : Spelled (λ i s. survey_line s) surveys_text (λ i s. SurveyFits s) SurveysFit
surveys_spelled = record { none = λ i. refl; next = λ i x xs. refl; fits_none = λ i. tt; fits_next = λ i x xs f h. (f, h) }

abbrev pub rings_text : ℕ → List SavedRing → List ℕ
rings_text i rs = flat_map block_text (map block_of rs)

abbrev pub RingsFit : ℕ → List SavedRing → Type 0
RingsFit i rs = (version : ℕ) → (version ≤ first_version → AllByRecursion BlockHasNoMember (map block_of rs)) → AllByRecursion (BlockFits version) (map block_of rs)

pub rings_spelled : Spelled (λ i r. block_text (block_of r)) rings_text (λ i r. (version : ℕ) → (version ≤ first_version → BlockHasNoMember (block_of r)) → BlockFits version (block_of r)) RingsFit
rings_spelled = record { none = λ i. refl; next = λ i x xs. refl; fits_none = λ i version none. tt; fits_next = λ i x xs f h version none. (f version (λ low. (none low).0), h version (λ low. (none low).1)) }
