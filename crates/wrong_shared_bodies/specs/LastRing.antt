-- The promises of a farm on its last ring.
use Rattle.std.specs.Prelude.{◌-◌, length}
use Rattle.ring_settings.specs.Contents.{SettingsData, ring_at}
use Rattle.ring_farm.specs.RingOutcome.{RingOutcome}
use Rattle.ring_farm.specs.Headline.{IsFarmRing}

-- the outcome has all that is promised of the last ring of the settings
abbrev pub IsLastRing : SettingsData → RingOutcome → Type 0
IsLastRing settings r =
    IsFarmRing settings (length settings.rings - 1) (ring_at settings (length settings.rings - 1)) r
