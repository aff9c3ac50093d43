-- The content of settings, as data, and the plans that they give.
use Rattle.std.specs.Prelude.{◌≡◌, ℕ, ◌<◌, ◌≤◌, List, [], length, map, All, slice_get, unwrap_or}
use Rattle.std.specs.List.{range_with_len}
use Rattle.ring_settings.specs.Limits.{ring_limit, action_limit}
use Rattle.ring_model.specs.Limits.{seat_limit}
use Rattle.ring_state.specs.Sizes.{Size, IsSize}
use Rattle.ring_settings.specs.Actions.{IsActionFor}
use Rattle.ring_settings.specs.Draws.{drawn, seat_stream}
use Rattle.ring_settings.specs.declared.actions.Action.{Action}
use Rattle.ring_settings.specs.declared.actions.Role.{Role}

-- a ring: its size, and the values that its machines start with
pub record RingData : Type 0 where
  pub size : Size
  pub start : List ℕ

-- a seat: a script of actions, or a role, a seed and a number of actions to be drawn
pub data SeatData : Type 0 where
  script : List Action → SeatData
  drawing : Role → ℕ → ℕ → SeatData

-- the rings, and the seats in the order of their numbers
pub record SettingsData : Type 0 where
  pub rings : List RingData
  pub seats : List SeatData

-- the rings' sizes
abbrev pub sizes_of : List RingData → List Size
sizes_of rings = map (λ ring. ring.size) rings

-- the ring at this place
abbrev pub ring_at : SettingsData → ℕ → RingData
ring_at settings ring =
    unwrap_or (slice_get settings.rings ring)
    (record { size = record { n = 0; k = 0 }; start = [] })

-- the seat of this number
abbrev pub seat_at : SettingsData → ℕ → SeatData
seat_at settings seat = unwrap_or (slice_get settings.seats seat) (script [])

-- a ring of an allowed size, with one start value below K for each machine
pub record IsRingSetting (ring : RingData) : Type 0 where
  pub size : IsSize ring.size
  pub one_each : length ring.start ≡ ring.size.n
  pub below : All (λ v. v < ring.size.k) ring.start

-- a seat has no more actions than the limit, and a scripted one only such as these rings have a
-- machine and a value for
abbrev pub IsSeatFor : List Size → SeatData → Type 0
IsSeatFor sizes (script actions) = (length actions ≤ action_limit) × All (IsActionFor sizes) actions
IsSeatFor sizes (drawing role seed actions) = actions ≤ action_limit

-- settings that a farm can run (the limits are this project's own)
pub record IsSettings (settings : SettingsData) : Type 0 where
  pub some_rings : 1 ≤ length settings.rings
  pub most_rings : length settings.rings ≤ ring_limit
  pub rings : All IsRingSetting settings.rings
  pub some_seats : 1 ≤ length settings.seats
  pub most_seats : length settings.seats ≤ seat_limit
  pub seats : All (IsSeatFor (sizes_of settings.rings)) settings.seats

-- a seat's plan: its script, or what the stream of its generator gives
abbrev pub seat_plan : List Size → ℕ → SeatData → List Action
seat_plan sizes seat (script actions) = actions
seat_plan sizes seat (drawing role seed actions) = drawn role sizes actions (seat_stream seed seat)

-- the plan of the seat of this number
abbrev pub plan_of : SettingsData → ℕ → List Action
plan_of settings seat = seat_plan (sizes_of settings.rings) seat (seat_at settings seat)

-- one plan for each seat, in the order of their numbers
abbrev pub plans_of : SettingsData → List (List Action)
plans_of settings = map (plan_of settings) (range_with_len 0 (length settings.seats))
