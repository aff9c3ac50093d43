-- The walk over the seats of a document.
use Rattle.std.specs.Prelude.{ℕ, ◌&&◌, nat_le, if◌then◌else◌, List, [], ◌∷◌, ◌++◌, length, codes, Option, Some, None, is_some, option_and_then, Result, Ok, Err}
use Rattle.serde_json.specs.Data.{Data, Items}
use Rattle.serde_json.specs.Find.{as_array, as_null, get}
use Rattle.ring_settings.specs.Limits.{action_limit, worker_limit}
use Rattle.ring_state.specs.Sizes.{Size}
use Rattle.ring_settings.specs.Contents.{SeatData, script, drawing, SettingsData, sizes_of}
use Rattle.ring_settings.specs.Rings.{rings_member}
use Rattle.ring_settings.specs.Scripts.{script_items}
use Rattle.ring_settings.specs.Walk.{json_of, then_with, each_from, items_count, is_object, number_member, limited}
use Rattle.ring_settings.specs.declared.actions.Role.{Role}
use Rattle.ring_settings.specs.declared.actions.Role.TheVariants as role
use Rattle.ring_settings.specs.declared.faults.Field.{Field}
use Rattle.ring_settings.specs.declared.faults.Field.TheVariants.{Top, Workers, Injector, Seed, Actions}
use Rattle.ring_settings.specs.declared.faults.SettingsError.{SettingsError}
use Rattle.ring_settings.specs.declared.faults.SettingsError.TheVariants.{Json, Shape, Limit}

-- the member of the document that has the seats of this role
abbrev pub field_of : Role → Field
field_of role.Worker = Workers
field_of role.Injector = Injector

-- a seat with this script
abbrev pub scripted_seat : List Size → ℕ → Data → Result SeatData SettingsError
scripted_seat sizes seat d =
    then_with (script_items sizes seat (as_array d)) (λ actions. Ok (script actions))

-- a seat whose actions are drawn: no more than the limit
abbrev pub drawn_seat : Role → Data → Result SeatData SettingsError
drawn_seat role d =
    then_with (number_member Seed (codes "seed") d) (λ seed.
    then_with (number_member Actions (codes "actions") d) (λ n.
    then_with (limited Actions (nat_le n action_limit) n) (λ actions.
    Ok (drawing role seed actions))))

-- a seat that has the member `script` is scripted, whatever else it has
abbrev pub seat_by_script : Role → List Size → ℕ → Data → Option Data
    → Result SeatData SettingsError
seat_by_script role sizes seat d (Some s) = scripted_seat sizes seat s
seat_by_script role sizes seat d None = drawn_seat role d

-- the seat of this number, which has to be an object
abbrev pub seat_from : Role → List Size → ℕ → Data → Result SeatData SettingsError
seat_from role sizes seat d =
    if is_object d then seat_by_script role sizes seat d (get (codes "script") d)
    else Err (Shape (field_of role))

-- some workers, within the limit
abbrev pub workers_items : List Size → Option Items → Result (List SeatData) SettingsError
workers_items sizes None = Err (Shape Workers)
workers_items sizes (Some ds) =
    if nat_le 1 (items_count ds) && nat_le (items_count ds) worker_limit
    then each_from (seat_from role.Worker sizes) 0 ds else Err (Limit Workers)

-- an injector that is absent or `null` is none; else it has the number after the workers'
abbrev pub injector_after : List Size → List SeatData → Option Data
    → Result (List SeatData) SettingsError
injector_after sizes workers None = Ok workers
injector_after sizes workers (Some d) =
    if is_some (as_null d) then Ok workers
    else then_with (seat_from role.Injector sizes (length workers) d) (λ injector.
    Ok (workers ++ injector ∷ []))

-- the workers in their order, and then the injector
abbrev pub seats_member : List Size → Data → Result (List SeatData) SettingsError
seats_member sizes d =
    then_with (workers_items sizes (option_and_then as_array (get (codes "workers") d))) (λ workers.
    injector_after sizes workers (get (codes "injector") d))

-- all rings are read before the first seat
abbrev pub settings_of_object : Data → Result SettingsData SettingsError
settings_of_object d =
    then_with (rings_member d) (λ rings.
    then_with (seats_member (sizes_of rings) d) (λ seats.
    Ok (record { rings = rings; seats = seats })))

-- bytes that are not JSON, and JSON that is not an object, are refused first
abbrev pub settings_of_json : Option Data → Result SettingsData SettingsError
settings_of_json None = Err Json
settings_of_json (Some d) = if is_object d then settings_of_object d else Err (Shape Top)

-- the settings that bytes are, or their first fault (this project's own)
abbrev pub settings_of : List ℕ → Result SettingsData SettingsError
settings_of bytes = settings_of_json (json_of bytes)
