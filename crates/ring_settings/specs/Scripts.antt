-- Which JSON values are actions.
use Rattle.std.specs.Prelude.{ℕ, ◌&&◌, nat_lt, nat_le, if◌then◌else◌, List, codes, Option, Some, None, option_and_then, Result, Err, length}
use Rattle.std.specs.Option.{ok_or}
use Rattle.std.specs.Str.{bytes_eq}
use Rattle.serde_json.specs.Data.{Data, Items, no_items, item}
use Rattle.serde_json.specs.Find.{as_array, as_str}
use Rattle.ring_settings.specs.Limits.{action_limit}
use Rattle.ring_state.specs.Sizes.{Size}
use Rattle.ring_settings.specs.Actions.{size_at}
use Rattle.ring_settings.specs.Walk.{each_from, items_count, whole_number}
use Rattle.ring_settings.specs.declared.actions.Action.{Action}
use Rattle.ring_settings.specs.declared.actions.Action.TheVariants.{Pass, Corrupt, Survey}
use Rattle.ring_settings.specs.declared.faults.Field.TheVariants as field
use Rattle.ring_settings.specs.declared.faults.SettingsError.{SettingsError}
use Rattle.ring_settings.specs.declared.faults.SettingsError.TheVariants.{Shape, Limit, Script}

-- `["survey", ring]`, of a ring that is there (the forms of actions are this project's own)
abbrev pub short_action : List Size → List ℕ → ℕ → Option Action
short_action sizes name ring =
    if bytes_eq name (codes "survey") && nat_lt ring (length sizes)
    then Some (Survey ring) else None

-- `["pass", ring, machine, order]` and `["corrupt", ring, machine, value]`: a corruption's value is
-- below K
abbrev pub machine_action : List Size → List ℕ → ℕ → ℕ → ℕ → Option Action
machine_action sizes name ring machine last =
    if bytes_eq name (codes "pass") then Some (Pass ring machine last)
    else (if bytes_eq name (codes "corrupt") && nat_lt last (size_at sizes ring).k
    then Some (Corrupt ring machine last) else None)

-- the same, where the ring is there and the machine is one of its machines
abbrev pub long_action : List Size → List ℕ → ℕ → ℕ → ℕ → Option Action
long_action sizes name ring machine last =
    if nat_lt ring (length sizes) && nat_lt machine (size_at sizes ring).n
    then machine_action sizes name ring machine last else None

-- an array of two or of four entries: a name, and whole numbers
abbrev pub action_of_items : List Size → Items → Option Action
action_of_items sizes no_items = None
action_of_items sizes (item kind no_items) = None
action_of_items sizes (item kind (item ring no_items)) =
    option_and_then (λ name.
    option_and_then (λ r. short_action sizes name r) (whole_number ring)) (as_str kind)
action_of_items sizes (item kind (item ring (item machine no_items))) = None
action_of_items sizes (item kind (item ring (item machine (item last no_items)))) =
    option_and_then (λ name.
    option_and_then (λ r.
    option_and_then (λ m.
    option_and_then (λ l. long_action sizes name r m l)
    (whole_number last)) (whole_number machine)) (whole_number ring)) (as_str kind)
action_of_items sizes (item kind (item ring (item machine (item last (item more ds))))) = None

-- the action that a JSON value is, for rings of these sizes
abbrev pub action_from : List Size → Data → Option Action
action_from sizes d = option_and_then (action_of_items sizes) (as_array d)

-- an entry of a seat's script
abbrev pub script_entry : List Size → ℕ → ℕ → Data → Result Action SettingsError
script_entry sizes seat place d = ok_or (action_from sizes d) (Script seat place)

-- a script of no more actions than the limit
abbrev pub script_items : List Size → ℕ → Option Items → Result (List Action) SettingsError
script_items sizes seat None = Err (Shape field.Script)
script_items sizes seat (Some ds) =
    if nat_le (items_count ds) action_limit
    then each_from (script_entry sizes seat) 0 ds else Err (Limit field.Script)
