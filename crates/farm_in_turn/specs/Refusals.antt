-- Which refusals a run in turns may meet.
use Rattle.std.specs.Prelude.{◌≡◌, ◌⊎◌, ℕ, ◌<◌, List, filter, length}
use Rattle.std.specs.List.{sum_by}
use Rattle.ring_model.specs.Limits.{event_limit}
use Rattle.ring_settings.specs.Contents.{SettingsData}
use Rattle.ring_settings.specs.declared.actions.Action.{Action}
use Rattle.ring_farm.specs.Plans.{is_call}
use Rattle.ring_farm.specs.declared.faults.FarmError.{FarmError}
use Rattle.ring_farm.specs.declared.faults.FarmError.TheVariants as farm
use Rattle.farm_in_turn.specs.InTurn.{parts_of}

-- how many of these actions are passes and corruptions
abbrev pub call_count : List (List Action) → ℕ
call_count left = sum_by (λ actions. length (filter is_call actions)) left

-- memory ran out; or these actions have more calls than a history may have events
abbrev pub IsRingFault : List (List Action) → FarmError → Type 0
IsRingFault left e =
    (e ≡ farm.OutOfMemory) ⊎ ((e ≡ farm.HistoryFull) × (event_limit < call_count left))

-- so it is with one of the rings
abbrev pub IsTurnsFault : SettingsData → FarmError → Type 0
IsTurnsFault settings e =
    (e ≡ farm.OutOfMemory)
    ⊎ ((ring : ℕ) × (ring < length settings.rings) × IsRingFault (parts_of settings ring) e)
