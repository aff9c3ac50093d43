-- Which actions are for rings of given sizes.
use Rattle.std.specs.Prelude.{ℕ, ◌<◌, List, length}
use Rattle.std.specs.Prelude.{slice_get, unwrap_or}
use Rattle.ring_state.specs.Sizes.{Size}
use Rattle.ring_settings.specs.declared.actions.Action.{Action}
use Rattle.ring_settings.specs.declared.actions.Action.TheVariants.{Pass, Corrupt, Survey}

-- the size of the ring at this place
abbrev pub size_at : List Size → ℕ → Size
size_at sizes ring = unwrap_or (slice_get sizes ring) (record { n = 0; k = 0 })

-- the ring is there, the machine is one of its machines, and the value one of its values
-- (this project's own)
abbrev pub IsActionFor : List Size → Action → Type 0
IsActionFor sizes (Pass ring machine order) =
    (ring < length sizes) × (machine < (size_at sizes ring).n)
IsActionFor sizes (Corrupt ring machine value) =
    (ring < length sizes) × (machine < (size_at sizes ring).n)
    × (value < (size_at sizes ring).k)
IsActionFor sizes (Survey ring) = ring < length sizes
