-- The sizes of the rings of settings, one by one.
use Rattle.std.proofs.Common.{◌≡◌, ℕ, ◌<◌, refl, [], length, Option, Some, None}
use Rattle.std.specs.Prelude.{option_map, unwrap_or, slice_get}
use Rattle.std.proofs.lemmas.Option.{slice_get-map, unwrap_or-slice_get}
use Rattle.ring_settings.specs.Actions.{size_at}
use Rattle.ring_settings.specs.Contents.{RingData, SettingsData, sizes_of, ring_at, IsSettings, IsRingSetting}

size_or_none : (o : Option RingData) → unwrap_or (option_map (λ ring. ring.size) o) (record { n = 0; k = 0 }) ≡ (unwrap_or o (record { size = record { n = 0; k = 0 }; start = [] })).size
size_or_none (Some ring) = refl
size_or_none None = refl

-- a ring's size is that at its place among the sizes
pub size_at_ring : (settings : SettingsData) (ring : ℕ) → size_at (sizes_of settings.rings) ring ≡ (ring_at settings ring).size
size_at_ring settings ring = rw (slice_get-map (λ (r : RingData). r.size) settings.rings ring) (size_or_none (slice_get settings.rings ring))

-- a ring of settings is one
pub ring_at_is : (settings : SettingsData) (ring : ℕ) → IsSettings settings → ring < length settings.rings → IsRingSetting (ring_at settings ring)
ring_at_is settings ring is there =
    let none : RingData = record { size = record { n = 0; k = 0 }; start = [] } in
    rw (unwrap_or-slice_get settings.rings ring none) (is.rings ring none there)
