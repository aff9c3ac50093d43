-- The data that determine a farm's logs.
use Rattle.std.specs.Prelude.{◌≡◌, ℕ, List, map, Some, slice_get}
use Rattle.ring_model.specs.declared.events.Entry.{Entry}
use Rattle.ring_model.specs.declared.events.Entry.TheVariants as entry
use Rattle.ring_settings.specs.Contents.{SettingsData, RingData}
use Rattle.ring_logs.specs.declared.logs.Log.{Log}
use Rattle.ring_logs.specs.declared.outcomes.RingOutcome.{RingOutcome}
use Rattle.ring_farm.specs.Headline.{IsFarmRing}

-- the place of an entry, and the places of the entries of a log, in order
abbrev pub place_of : Entry → ℕ
place_of (entry.Receipt r) = r.position
place_of (entry.Survey s) = s.position

abbrev pub places : List Entry → List ℕ
places log = map place_of log

-- Two outcomes of one ring of the settings with one history: two logs of one seat whose entries
-- are at the same places are the same.
abbrev pub LogsFollow : Type 0
LogsFollow =
    (settings : SettingsData) (ring : ℕ) (d : RingData) (one other : RingOutcome)
    → IsFarmRing settings ring d one → IsFarmRing settings ring d other
    → one.book.history ≡ other.book.history → (seat : ℕ) (l m : Log)
    → slice_get one.logs.items seat ≡ Some l → slice_get other.logs.items seat ≡ Some m
    → places l.entries.items ≡ places m.entries.items
    → (l.seat ≡ m.seat) × (l.entries.items ≡ m.entries.items)
