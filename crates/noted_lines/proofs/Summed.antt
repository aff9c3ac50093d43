-- The sum of two texts, one after the other.
use Rattle.std.proofs.Common.{◌≡◌, ℕ, ◌<◌, ◌*◌, ◌^◌, List, [], ◌∷◌, ◌++◌, arith, lit<}
use Rattle.std.specs.List.{fold}
use Rattle.std.specs.Int.Bits.{bit_xor}
use Rattle.std.proofs.lemmas.Nat.{mod_below}
use Rattle.std.proofs.lemmas.List.Sums.{fold-append}
use Rattle.noted_lines.specs.Sums.{with_byte, with_bytes, sum_of}

pub sum_of_both : (front line : List ℕ) → sum_of (front ++ line) ≡ with_bytes (sum_of front) line
unfolding with_bytes sum_of
sum_of_both front line = fold-append with_byte 2166136261 front line

byte_below : (sum b : ℕ) → with_byte sum b < 2 ^ 32
unfolding with_byte
byte_below sum b = mod_below (bit_xor sum b * 16777619) (2 ^ 32) (omega arith)

bytes_below : (sum : ℕ) (bytes : List ℕ) → sum < 2 ^ 32 → fold with_byte sum bytes < 2 ^ 32
bytes_below sum [] lt = lt
bytes_below sum (b ∷ bs) lt = bytes_below (with_byte sum b) bs (byte_below sum b)

pub sum_below : (bytes : List ℕ) → sum_of bytes < 2 ^ 32
unfolding with_bytes sum_of
sum_below bytes = bytes_below 2166136261 bytes (lit< tt)

pub sum_small : (bytes : List ℕ) → sum_of bytes < 2 ^ 64
sum_small bytes = let lt = sum_below bytes in omega (arith, lt)
