-- A ring between two turns (this project's own).
use Rattle.std.specs.Prelude.{◌≡◌, ℕ, List, Some, slice_get}
use Rattle.one_thread_ring.specs.Rings.{RingView}
use Rattle.ring_logs.specs.declared.outcomes.RingOutcome.{RingOutcome}
use Rattle.ring_settings.specs.Contents.{SettingsData, ring_at}
use Rattle.ring_settings.specs.declared.actions.Plan.{Plan}
use Rattle.ring_farm.specs.Runs.{IsRunOf, ring_of_data}
use Rattle.farm_in_turn.specs.InTurn.{Run, IsInTurn, new_run}

-- what the run of a ring has so far
abbrev pub so_far : {C : Type 0} → RingView C → Run
so_far r = record { history = r.book.history; logs = r.clients }

-- the ring starts as the settings say, and nothing has happened
pub record IsBegun {C : Type 0} (settings : SettingsData) (ring seats : ℕ) (r : RingView C) : Type 0
  where
    pub start : r.book.start ≡ ring_of_data (ring_at settings ring)
    pub nothing : so_far r ≡ new_run seats

-- the outcome of a ring is a run of it, and its run in turns
pub record IsRunInTurn (settings : SettingsData) (plans : List Plan) (seed ring : ℕ)
    (o : RingOutcome) : Type 0 where
  pub run : IsRunOf settings plans ring o
  pub in_turn : IsInTurn settings seed ring (ring_at settings ring) o

-- so are those of the first rings
abbrev pub AreRunsInTurn : SettingsData → List Plan → ℕ → List RingOutcome → Type 0
AreRunsInTurn settings plans seed rings =
    (ring : ℕ) (o : RingOutcome) → slice_get rings ring ≡ Some o
    → IsRunInTurn settings plans seed ring o
