-- A ring of a saved text that is opened for C, and why none is (this project's own).
use Rattle.std.specs.Prelude.{◌≡◌, ◌≢◌, ℕ, ◌<◌, ◌≤◌, ◌⊎◌, List, All, map, length, slice_get, Some, Ok}
use Rattle.ring_model.specs.Ring.{ring_with}
use Rattle.ring_model.specs.Resources.{till}
use Rattle.ring_model.specs.Limits.{event_limit}
use Rattle.saved_history.specs.declared.saved.Saved.{Saved}
use Rattle.saved_history.specs.declared.saved.SavedRing.{SavedRing}
use Rattle.saved_history.specs.declared.saved.SavedEvent.{SavedEvent}
use Rattle.saved_history.specs.declared.saved.SavedSurvey.{SavedSurvey}
use Rattle.saved_history.specs.Meaning.{IsRightRead}
use Rattle.ring_check.specs.Table.{event_of}
use Rattle.one_thread_ring.specs.Rings.{RingView, IsOneThreadRing, IsSeatCount}
use Rattle.one_thread_ring.specs.Texts.{surveys_told}
use Rattle.ring_model.specs.Bases.{no_base}
use Rattle.endless_ring.specs.Files.{first_place, filed_at}
use Rattle.c_calls.specs.declared.answers.Sums.{Sums}
use Rattle.c_calls.specs.declared.kept.Kept.{Kept}
use Rattle.c_calls.specs.declared.kept.Kept.TheVariants.{Till, Idle}
use Rattle.c_calls.specs.Codes.{no_memory, no_ring, bad_seats, no_seat, history_full}
use Rattle.c_calls.specs.Reports.{IsVerdict}

-- each call and each survey of the saved ring is by a seat below this number
pub record NamesOnly (ring : SavedRing) (seats : ℕ) : Type 0 where
  pub callers : All (λ (e : SavedEvent). (event_of e).seat < seats) ring.events.items
  pub surveyors : All (λ (s : SavedSurvey). s.seat < seats) ring.surveys.items

-- a ring of this many seats may resume it, if it is of a legal text
pub record FitsSeats (ring : SavedRing) (seats : ℕ) : Type 0 where
  pub count : IsSeatCount seats
  pub names : NamesOnly ring seats
  pub few : length ring.events.items ≤ event_limit

-- None may, by the first that applies: there are not 1 to 10 seats; another seat is named; the
-- history has too many events.
abbrev pub IsSeatsFault : SavedRing → ℕ → ℕ → Type 0
IsSeatsFault ring seats code =
    ((code ≡ bad_seats) × (¬ IsSeatCount seats))
    ⊎ (((code ≡ no_seat) × IsSeatCount seats × (¬ NamesOnly ring seats))
    ⊎ ((code ≡ history_full)
    × IsSeatCount seats
    × NamesOnly ring seats
    × (event_limit < length ring.events.items)))

-- it is not resumed: none may, or one may, but memory runs out
abbrev pub IsRingRefused : SavedRing → ℕ → ℕ → Type 0
IsRingRefused ring seats code =
    IsSeatsFault ring seats code ⊎ ((code ≡ no_memory) × FitsSeats ring seats)

-- the ring has this many seats; it started as the saved one did, and has its history and its surveys
pub record IsResumedAs (ring : SavedRing) (seats : ℕ) (d : RingView ℕ) : Type 0 where
  pub fits : FitsSeats ring seats
  pub start : d.book.start ≡ ring_with ring.k ring.start.items
  pub history : d.book.history ≡ map event_of ring.events.items
  pub surveys : surveys_told d.clients ≡ ring.surveys.items
  pub seated : length d.clients ≡ seats
  pub right : IsOneThreadRing till 0 d

-- it resumes so the saved one at this place
pub record IsResumedAt (saved : Saved) (place seats : ℕ) (d : RingView ℕ) : Type 0 where
  pub ring : SavedRing
  pub at : slice_get saved.rings.items place ≡ Some ring
  pub resumed : IsResumedAs ring seats d

-- there is none at this place, or the one there is not resumed
abbrev pub IsPlaceRefused : Saved → ℕ → ℕ → ℕ → Type 0
IsPlaceRefused saved place seats code =
    ((code ≡ no_ring) × (length saved.rings.items ≤ place))
    ⊎ ((ring : SavedRing)
    × (slice_get saved.rings.items place ≡ Some ring)
    × IsRingRefused ring seats code)

-- The bytes are a saved text, and the ring resumes the one at this place of it.
pub record IsResumedFrom (bytes : List ℕ) (place seats : ℕ) (d : RingView ℕ) : Type 0 where
  pub saved : Saved
  pub read : IsRightRead bytes (Ok saved)
  pub at : IsResumedAt saved place seats d

-- its segment is the first file of a chain
abbrev pub IsResumed : List ℕ → ℕ → ℕ → Kept → Type 0
IsResumed bytes place seats (Till d) =
    (d ≡ filed_at first_place no_base d.ring.ring) × IsResumedFrom bytes place seats d.ring.ring
IsResumed bytes place seats (Idle d) = ⊥

-- they are, and none is resumed
pub record IsResumeRefused (bytes : List ℕ) (place seats code : ℕ) : Type 0 where
  pub saved : Saved
  pub read : IsRightRead bytes (Ok saved)
  pub why : IsPlaceRefused saved place seats code

-- What the checker refuses is refused with its code and its line. A legal text has its sums; at 0 a
-- ring of it is resumed, and any other code says why not.
abbrev pub IsSavedAnswer : List ℕ → ℕ → ℕ → ℕ → Sums → Type 0
IsSavedAnswer bytes place seats code out =
    ((code ≢ 0) × IsVerdict bytes code out)
    ⊎ (IsVerdict bytes 0 out × (code ≢ 0 → IsResumeRefused bytes place seats code))
