-- How wide the cells of a state are.
use Rattle.std.specs.Prelude.{ℕ}

-- how many values a byte can hold
abbrev pub byte_values : ℕ
byte_values = 256
