-- How the name of a segment is read.
use Rattle.std.specs.Prelude.{◌≡◌, ℕ, ◌<◌, ◌⊎◌}

-- a name of this length that begins with this number of zeros needs each of them to be long enough
abbrev pub IsPadded : ℕ → ℕ → Type 0
IsPadded length zeros = (length ≡ 15) ⊎ ((zeros ≡ 0) × (15 < length))
