-- The result of a run of one ring, in the subject's words.
use Rattle.std.specs.Prelude.{◌≡◌, ℕ, ◌<◌, ◌≤◌, List, [], ◌∷◌, All, length, slice_index_or, Option, Some, None, Result, Ok, Err, IfOk}
use Rattle.ring_model.specs.Ring.{Ring}
use Rattle.ring_model.specs.History.{opening}
use Rattle.ring_model.specs.HistoryLaws.{Settlement}
use Rattle.ring_model.specs.Logs.{Fits}
use Rattle.ring_model.specs.Resources.{till}
use Rattle.ring_book.specs.BookView.{BookView, IsBook}
use Rattle.ring_settings.specs.Contents.{SettingsData, RingData, ring_at, sizes_of}
use Rattle.ring_settings.specs.declared.actions.Plan.{Plan}
use Rattle.ring_logs.specs.Seats.{AreOfSeats}
use Rattle.ring_logs.specs.declared.logs.Log.{Log}
use Rattle.ring_model.specs.Limits.{seat_limit}
use Rattle.ring_farm.specs.Plans.{Pairs, HasDone, IsShort, IsPlanFor}
use Rattle.ring_farm.specs.declared.faults.FarmError.{FarmError}
use Rattle.ring_logs.specs.declared.outcomes.RingOutcome.{RingOutcome}

-- a ring of the settings, as its machines start
abbrev pub ring_of_data : RingData → Ring
ring_of_data d = record { k = d.size.k; values = d.start }

-- the log says that its seat, which has this number, did the part of its plan
abbrev pub IsLogged : ℕ → ℕ → Plan → Log → Type 0
IsLogged ring i p l = HasDone ring i p.actions.items l.seat l.entries.items

-- The result of a run of one ring: a book that begins with the given start and the amount 0, whose
-- history is one legal history of the one-thread ring; each event is of one of the seats; one log
-- for each plan, which fits the history and is that plan's part.
pub record IsRun (plans : List Plan) (ring : ℕ) (start : Ring) (b : BookView ℕ) (logs : List Log) :
    Type 0 where
  pub begins : b.start ≡ start
  pub book : IsBook till 0 b
  pub settlement : Settlement till (opening start 0) b.history
  pub of_seats : AreOfSeats (length plans) b.history
  pub fits : All (λ (l : Log). Fits till (opening start 0) b.history l.seat l.entries.items) logs
  pub count : length logs ≡ length plans
  pub logged : Pairs (IsLogged ring) plans logs

-- this ring's outcome is that of a run of it, from the start that the settings say
abbrev pub IsRunOf : SettingsData → List Plan → ℕ → RingOutcome → Type 0
IsRunOf settings plans ring o =
    IsRun plans ring (ring_of_data (ring_at settings ring)) o.book o.logs.items

-- of each ring of the settings, its result is a refusal or the outcome of a run of it
abbrev pub AreRunsOf : SettingsData → List Plan → List (Result RingOutcome FarmError) → Type 0
AreRunsOf settings plans results =
    (ring : ℕ) (d : Result RingOutcome FarmError) → ring < length settings.rings
    → IfOk (slice_index_or results ring d) (IsRunOf settings plans ring)

-- these plans can be run: there is one for each of some seats, none is too long, and each action is
-- for one of the rings and can be made there
abbrev pub CanRun : SettingsData → List Plan → Type 0
CanRun settings plans =
    (1 ≤ length plans)
    × (length plans ≤ seat_limit)
    × All IsShort plans
    × All (IsPlanFor (sizes_of settings.rings)) plans

-- the first refusal in the order of the rings
abbrev pub first_refusal : {A E : Type 0} → List (Result A E) → Option E
first_refusal [] = None
first_refusal (Ok a ∷ rs) = first_refusal rs
first_refusal (Err e ∷ rs) = Some e
