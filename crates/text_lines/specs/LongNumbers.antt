-- Decimals of any size, so that a call of something that is not there is answered so, however great
-- its number is (this project's own).
use Rattle.std.specs.Prelude.{ℕ, zero, suc, ◌+◌, ◌-◌, ◌*◌, ◌^◌, min, map, List, [], ◌∷◌, ◌++◌, length, ◌==◌, nat_lt, ◌&&◌, if◌then◌else◌, Option, Some, None, Ok, Err}
use Rattle.std.specs.Int.Digits.{digits_of}
use Rattle.text_lines.specs.declared.fault.Fault.TheVariants.{Short, Bad}
use Rattle.text_lines.specs.Reading.{Reader, ◌>>=◌, is_digit, as_at, stop_of}

-- ---- how a number is spelled

-- a decimal without signs or leading zeros
unfoldable pub number_text : ℕ → List ℕ
number_text n = if n == 0 then 48 ∷ [] else map (λ d. 48 + d) (digits_of 10 n)

-- a number and a space
abbrev pub number_spaced : ℕ → List ℕ
number_spaced n = number_text n ++ 32 ∷ []

-- a number and the LF that ends the line
abbrev pub number_ended : ℕ → List ℕ
number_ended n = number_text n ++ 10 ∷ []

-- numbers on one line: a space between two of them, an LF after the last
abbrev pub number_row : List ℕ → List ℕ
number_row [] = []
number_row (x ∷ []) = number_ended x
number_row (x ∷ y ∷ xs) = number_spaced x ++ number_row (y ∷ xs)

-- ---- what is heard of it

-- a number of 64 bits, or none if it is greater
abbrev pub in_64_bits : ℕ → Option ℕ
in_64_bits n = if nat_lt n (2 ^ 64) then Some n else None

-- the number of a ring, a seat or a machine, or a value: the greatest of 32 bits is read for all
-- that are greater, and none of these has it
abbrev pub in_32_bits : ℕ → ℕ
in_32_bits n = min n 4294967295

-- ---- the readers as functions on lists

-- the digits of a number after those that say n, up to the byte that ends it; none follows a
-- leading 0
unfoldable pub long_digits_at : ℕ → ℕ → Reader ℕ
long_digits_at stop n [] = Err Short
long_digits_at stop n (b ∷ bs) =
    if b == stop
    then Ok (n, bs)
    else (if nat_lt 0 n && is_digit b
    then long_digits_at stop (n * 10 + (b - 48)) bs
    else Err (Bad (suc (length bs))))

-- a decimal without signs or leading zeros, and the byte that ends it
unfoldable pub decimal_at : ℕ → Reader ℕ
decimal_at stop [] = Err Short
decimal_at stop (b ∷ bs) =
    if is_digit b then long_digits_at stop (b - 48) bs else Err (Bad (suc (length bs)))

-- an order: a decimal of 64 bits, or none if it is greater
unfoldable pub order_at : ℕ → Reader (Option ℕ)
order_at stop = as_at in_64_bits (decimal_at stop)

-- the number of a ring, a seat or a machine, or a value
unfoldable pub place_at : ℕ → Reader ℕ
place_at stop = as_at in_32_bits (decimal_at stop)

-- n of them on one line
unfoldable pub places_at : ℕ → Reader (List ℕ)
places_at zero bytes = Ok ([], bytes)
places_at (suc k) bytes =
    place_at (stop_of k) bytes >>= λ x. places_at k x.1 >>= λ y. Ok (x.0 ∷ y.0, y.1)
