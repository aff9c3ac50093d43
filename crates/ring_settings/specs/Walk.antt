-- The steps of a walk over a document, and its leaves.
use Rattle.std.specs.Prelude.{ℕ, ◌+◌, ◌^◌, nat_lt, if◌then◌else◌, List, [], ◌∷◌, Bool, is_some, Option, None, option_and_then, Result, Ok, Err}
use Rattle.std.specs.Option.{ok_or}
use Rattle.std.specs.Str.{is_utf8}
use Rattle.serde_json.specs.Data.{Data, Items, no_items, item}
use Rattle.serde_json.specs.Find.{as_object, as_number, as_u64, get}
use Rattle.serde_json.specs.Read.{read}
use Rattle.ring_settings.specs.declared.faults.Field.{Field}
use Rattle.ring_settings.specs.declared.faults.SettingsError.{SettingsError}
use Rattle.ring_settings.specs.declared.faults.SettingsError.TheVariants.{Shape, Limit}

-- the JSON value of some bytes, as `serde_json` reads them
abbrev pub json_of : List ℕ → Option Data
json_of bytes = if is_utf8 bytes then read bytes else None

-- a value that was read is handed to the next part, and the first refusal is kept
abbrev pub then_with : {A B : Type 0} →
    Result A SettingsError → (A → Result B SettingsError) → Result B SettingsError
then_with (Ok a) next = next a
then_with (Err e) next = Err e

-- each entry of an array in order, read with its place, or the first refusal
abbrev pub each_from : {A : Type 0} →
    (ℕ → Data → Result A SettingsError) → ℕ → Items → Result (List A) SettingsError
each_from entry place no_items = Ok []
each_from entry place (item d ds) =
    then_with (entry place d) (λ a.
    then_with (each_from entry (place + 1) ds) (λ rest. Ok (a ∷ rest)))

-- how many entries an array has
abbrev pub items_count : Items → ℕ
items_count no_items = 0
items_count (item d ds) = items_count ds + 1

-- whether a JSON value is an object
abbrev pub is_object : Data → Bool
is_object d = is_some (as_object d)

-- a whole number: a JSON number for which `as_u64` gives a value
abbrev pub whole_number : Data → Option ℕ
whole_number d = option_and_then as_u64 (as_number d)

-- a member that is a whole number
abbrev pub number_member : Field → List ℕ → Data → Result ℕ SettingsError
number_member field name d = ok_or (option_and_then whole_number (get name d)) (Shape field)

-- a number within its limit
abbrev pub limited : Field → Bool → ℕ → Result ℕ SettingsError
limited field within n = if within then Ok n else Err (Limit field)

-- a member that is a whole number below 2 to the power 32
abbrev pub u32_member : Field → List ℕ → Data → Result ℕ SettingsError
u32_member field name d =
    then_with (number_member field name d) (λ n.
    limited field (nat_lt n (2 ^ 32)) n)
