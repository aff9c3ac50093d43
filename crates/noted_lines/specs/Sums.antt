-- The sum of a note: FNV-1a of 32 bits (this project's own).
use Rattle.std.specs.Prelude.{ℕ, ◌*◌, ◌%◌, ◌^◌, List}
use Rattle.std.specs.List.{fold}
use Rattle.std.specs.Int.Bits.{bit_xor}

-- the sum with a byte more
unfoldable pub with_byte : ℕ → ℕ → ℕ
with_byte sum b = (bit_xor sum b * 16777619) % 2 ^ 32

-- the sum with these bytes more
unfoldable pub with_bytes : ℕ → List ℕ → ℕ
with_bytes sum bytes = fold with_byte sum bytes

-- the sum of some bytes
unfoldable pub sum_of : List ℕ → ℕ
sum_of bytes = with_bytes 2166136261 bytes
