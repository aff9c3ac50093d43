-- How numbers are spelled: by std's decimal, which has no leading 0.
use Rattle.std.specs.Prelude.{◌≡◌, ℕ, zero, suc, ◌<◌, List, [], ◌∷◌, ◌++◌, length, map}
use Rattle.std.specs.Fmt.{decimal}
use Rattle.std.specs.List.{AllByRecursion, join_with_byte}
use Rattle.text_lines.specs.Reading.{Either, this, that}

-- a number and a space
abbrev pub spaced : ℕ → List ℕ
spaced n = decimal n ++ 32 ∷ []

-- a number and the LF that ends the line
abbrev pub ended : ℕ → List ℕ
ended n = decimal n ++ 10 ∷ []

-- numbers on one line: a space between two of them, an LF after the last
abbrev pub row : List ℕ → List ℕ
row [] = []
row (x ∷ []) = ended x
row (x ∷ y ∷ xs) = spaced x ++ row (y ∷ xs)

-- numbers with a comma between two of them
abbrev pub list_text : List ℕ → List ℕ
list_text numbers = join_with_byte 44 (map decimal numbers)

-- numbers with something between two of them and something after the last
abbrev pub numbers_text : List ℕ → List ℕ → List ℕ → List ℕ
numbers_text between behind [] = []
numbers_text between behind (x ∷ []) = decimal x ++ behind
numbers_text between behind (x ∷ y ∷ xs) =
    decimal x ++ (between ++ numbers_text between behind (y ∷ xs))

-- the bytes after a number with this many after it
abbrev pub stop_text : List ℕ → List ℕ → ℕ → List ℕ
stop_text between behind zero = behind
stop_text between behind (suc n) = between

-- a number that is below the limit
abbrev pub Below : ℕ → ℕ → Type 0
Below limit n = n < limit

-- a number that is below the limit and not 0
abbrev pub Positive : ℕ → ℕ → Type 0
Positive limit n = (0 < n) × (n < limit)

-- n numbers below the limit
abbrev pub RowFits : ℕ → ℕ → List ℕ → Type 0
RowFits limit n xs = (length xs ≡ n) × AllByRecursion (λ x. x < limit) xs

-- the values that fit, and how they are spelled, of one of two
abbrev pub OfEither : {A B : Type 0} → (A → Type 0) → (B → Type 0) → Either A B → Type 0
OfEither F G (this a) = F a
OfEither F G (that b) = G b

abbrev pub of_either : {A B : Type 0} → (A → List ℕ) → (B → List ℕ) → Either A B → List ℕ
of_either s t (this a) = s a
of_either s t (that b) = t b
