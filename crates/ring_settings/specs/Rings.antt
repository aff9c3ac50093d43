-- The walk over the rings of a document.
use Rattle.std.specs.Prelude.{◌==◌, ℕ, ◌+◌, ◌^◌, ◌&&◌, nat_lt, nat_le, if◌then◌else◌, List, [], ◌∷◌, length, codes, Option, Some, None, option_and_then, option_map, Result, Ok, Err}
use Rattle.std.specs.Option.{ok_or}
use Rattle.std.specs.List.{list_all}
use Rattle.serde_json.specs.Data.{Data, Items}
use Rattle.serde_json.specs.Find.{as_array, get}
use Rattle.ring_settings.specs.Limits.{ring_limit}
use Rattle.ring_model.specs.Limits.{machine_limit, value_limit}
use Rattle.ring_state.specs.Sizes.{Size}
use Rattle.ring_settings.specs.Contents.{RingData}
use Rattle.ring_settings.specs.Walk.{then_with, each_from, items_count, is_object, whole_number, u32_member}
use Rattle.ring_settings.specs.declared.faults.Field.TheVariants.{Rings, N, K, Start}
use Rattle.ring_settings.specs.declared.faults.RingCause.{RingCause}
use Rattle.ring_settings.specs.declared.faults.RingCause.TheVariants as cause
use Rattle.ring_settings.specs.declared.faults.SettingsError.{SettingsError}
use Rattle.ring_settings.specs.declared.faults.SettingsError.TheVariants.{Shape, Limit, Ring}

-- an entry of `start` (this walk and its order are this project's own)
abbrev pub start_entry : ℕ → Data → Result ℕ SettingsError
start_entry place d = ok_or (whole_number d) (Shape Start)

-- numbers that are all below 2 to the power 32
abbrev pub start_values : List ℕ → Result (List ℕ) SettingsError
start_values ns = if list_all (λ n. nat_lt n (2 ^ 32)) ns then Ok ns else Err (Limit Start)

-- the entries of `start`: each is looked at for its shape before one is for its limit
abbrev pub start_items : Option Items → Result (List ℕ) SettingsError
start_items None = Err (Shape Start)
start_items (Some ds) = then_with (each_from start_entry 0 ds) start_values

-- the member `start` of a ring
abbrev pub start_member : Data → Result (List ℕ) SettingsError
start_member d = start_items (option_and_then as_array (get (codes "start") d))

-- the fault of a size, if it has one
abbrev pub size_fault : ℕ → ℕ → Option RingCause
size_fault n k =
    if nat_lt n 2 then Some cause.TooFew
    else (if nat_lt machine_limit n then Some cause.TooMany
    else (if nat_lt k n then Some cause.FewValues
    else (if nat_lt value_limit k then Some cause.ManyValues else None)))

-- the place of the first value that is not below k
abbrev pub first_over : ℕ → ℕ → List ℕ → Option ℕ
first_over k place [] = None
first_over k place (v ∷ vs) = if nat_lt v k then first_over k (place + 1) vs else Some place

-- the fault of the start values of a ring of this size, if they have one
abbrev pub values_fault : Size → List ℕ → Option RingCause
values_fault size vs =
    if length vs == size.n
    then option_map cause.Value (first_over size.k 0 vs)
    else Some cause.Length

-- a value where there is no fault, and the refusal of the ring at this place where there is one
abbrev pub unless_fault : {A : Type 0} → ℕ → Option RingCause → A → Result A SettingsError
unless_fault place (Some fault) a = Err (Ring place fault)
unless_fault place None a = Ok a

-- the size of the ring at this place, or its fault
abbrev pub size_from : ℕ → ℕ → ℕ → Result Size SettingsError
size_from place n k = unless_fault place (size_fault n k) (record { n = n; k = k })

-- n, k and start are read in this order, then the size is tested, then the start values
abbrev pub ring_of_object : ℕ → Data → Result RingData SettingsError
ring_of_object place d =
    then_with (u32_member N (codes "n") d) (λ n.
    then_with (u32_member K (codes "k") d) (λ k.
    then_with (start_member d) (λ start.
    then_with (size_from place n k) (λ size.
    unless_fault place (values_fault size start) (record { size = size; start = start })))))

-- the ring at this place, which has to be an object
abbrev pub ring_from : ℕ → Data → Result RingData SettingsError
ring_from place d = if is_object d then ring_of_object place d else Err (Shape Rings)

-- some rings, within the limit
abbrev pub rings_items : Option Items → Result (List RingData) SettingsError
rings_items None = Err (Shape Rings)
rings_items (Some ds) =
    if nat_le 1 (items_count ds) && nat_le (items_count ds) ring_limit
    then each_from ring_from 0 ds else Err (Limit Rings)

-- the member `rings` of a document
abbrev pub rings_member : Data → Result (List RingData) SettingsError
rings_member d = rings_items (option_and_then as_array (get (codes "rings") d))
