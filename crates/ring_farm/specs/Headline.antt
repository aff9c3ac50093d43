-- The promises of a farm: of each ring of its settings the same promises, by name. The consequences
-- are in `Consequences.antt`.
use Rattle.std.specs.Prelude.{◌≡◌, ℕ, ◌<◌, All, length, List, Some, slice_get, Result, Ok}
use Rattle.ring_model.specs.History.{IsLegal, opening}
use Rattle.ring_model.specs.Logs.{Fits, calls_of}
use Rattle.ring_model.specs.Resources.{till}
use Rattle.ring_settings.specs.Contents.{SettingsData, RingData, IsSettings, plan_of}
use Rattle.ring_logs.specs.Seats.{AreOfSeats}
use Rattle.ring_logs.specs.declared.logs.Log.{Log}
use Rattle.ring_farm.specs.declared.faults.FarmError.{FarmError}
use Rattle.ring_farm.specs.declared.outcomes.Outcome.{Outcome}
use Rattle.ring_logs.specs.declared.outcomes.RingOutcome.{RingOutcome}
use Rattle.ring_farm.specs.Plans.{Pairs, HasDone, planned_calls, calls_read}
use Rattle.ring_farm.specs.Runs.{ring_of_data}

-- of each ring of the settings and its outcome
abbrev pub EachRing : (ℕ → RingData → RingOutcome → Type 0) → SettingsData → Outcome → Type 0
EachRing rel settings o = Pairs rel settings.rings o.rings.items

-- the ring's passes and corruptions form one legal history of the one-thread ring, from the start
-- that the settings say and the amount 0
abbrev pub IsOneHistory : RingData → RingOutcome → Type 0
IsOneHistory d r =
    (r.book.start ≡ ring_of_data d) × IsLegal till (opening (ring_of_data d) 0) r.book.history

-- It holds each client's calls on that ring once, in the order of the client's plan, and no other
-- events. A group's member reads as no action of a plan, so no event is one.
abbrev pub HoldsCalls : SettingsData → ℕ → RingData → RingOutcome → Type 0
HoldsCalls settings ring d r =
    AreOfSeats (length settings.seats) r.book.history
    × ((seat : ℕ) → seat < length settings.seats
    → calls_read ring (calls_of seat r.book.history) ≡ planned_calls ring (plan_of settings seat))

-- the seats' logs are in the order of their numbers; read as actions, each is the part of its plan
-- that concerns the ring, in order
pub record HasLogs (settings : SettingsData) (ring : ℕ) (r : RingOutcome) : Type 0 where
  pub count : length r.logs.items ≡ length settings.seats
  pub each : (seat : ℕ) (l : Log) → slice_get r.logs.items seat ≡ Some l
      → HasDone ring seat (plan_of settings seat) l.seat l.entries.items

-- each receipt and each survey in the logs is the ring's at its position, and none is before
-- the front that its client had seen
abbrev pub AreRight : RingData → RingOutcome → Type 0
AreRight d r =
    All (λ (l : Log). Fits till (opening (ring_of_data d) 0) r.book.history l.seat l.entries.items)
    r.logs.items

-- all that is promised of one ring of the settings
pub record IsFarmRing (settings : SettingsData) (ring : ℕ) (d : RingData) (r : RingOutcome) : Type 0
  where
    pub one_history : IsOneHistory d r
    pub calls : HoldsCalls settings ring d r
    pub logs : HasLogs settings ring r
    pub right : AreRight d r

-- and of all of them: the settings are such as a farm can run, and there is one outcome for each
-- ring, in their order
pub record IsFarmOf (settings : SettingsData) (o : Outcome) : Type 0 where
  pub allowed : IsSettings settings
  pub count : length o.rings.items ≡ length settings.rings
  pub rings : EachRing (IsFarmRing settings) settings o

-- of each ring of the settings that was not refused, and its outcome
abbrev pub EachDone : (ℕ → RingData → RingOutcome → Type 0) → SettingsData
    → List (Result RingOutcome FarmError) → Type 0
EachDone rel settings results =
    Pairs (λ i d res. (r : RingOutcome) → res ≡ Ok r → rel i d r) settings.rings results
