-- Sets of machines as words of 64 bits.
use Rattle.std.specs.Prelude.{ℕ, ◌/◌, ◌%◌, ◌==◌, Bool, List, slice_index}
use Rattle.std.specs.Int.{bit_at}
use Rattle.ring_model.specs.Numbers.{count_below}
use Rattle.ring_model.specs.Limits.{machine_limit}

-- whether bit b of a word is set
abbrev pub is_set : ℕ → ℕ → Bool
is_set word b = bit_at word b == 1

-- whether machine i is in the set: bit i % 64 of word i / 64
abbrev pub is_in : List ℕ → ℕ → Bool
is_in words i = is_set (slice_index words (i / 64)) (i % 64)

-- how many machines below n are in it
unfoldable pub members_below : List ℕ → ℕ → ℕ
members_below words n = count_below (is_in words) n

-- how many machines are in it
abbrev pub members : List ℕ → ℕ
members words = members_below words machine_limit
