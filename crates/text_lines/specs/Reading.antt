-- Readers as functions on lists: the value and the bytes after it, or the first fault.
use Rattle.std.specs.Prelude.{◌≡◌, ℕ, zero, suc, ◌+◌, ◌-◌, ◌*◌, List, [], ◌∷◌, length, Result, Ok, Err, Bool, nat_lt, nat_le, ◌==◌, ◌&&◌, if◌then◌else◌}
use Rattle.text_lines.specs.declared.fault.Fault.{Fault}
use Rattle.text_lines.specs.declared.fault.Fault.TheVariants.{Short, Bad}
use Rattle.text_lines.specs.declared.fault.Stop.{Stop}
use Rattle.text_lines.specs.declared.fault.Stop.TheVariants as stops

-- A reader as its contract sees it: from the bytes, a value and the bytes after it (this
-- project's own).
abbrev pub Reader : Type 0 → Type 0
Reader A = List ℕ → Result (A × List ℕ) Fault

-- one step, and what follows it where it did not fail
infixl 10 ◌>>=◌
abbrev pub ◌>>=◌ : {A B : Type 0} → Result A Fault → (A → Result B Fault) → Result B Fault
(Ok x) >>= f = f x
(Err e) >>= f = Err e

-- the function on lists has this fault, unless memory ran out
abbrev pub Fails : {Y : Type 0} → Stop → Result Y Fault → Type 0
Fails stops.Memory read = Unit {0}
Fails (stops.Fault f) read = read ≡ Err f

-- The result of a function, seen by view, is the result of the function on lists, unless memory ran
-- out.
abbrev pub Gives : {X Y : Type 0} → (X → Y) → Result X Stop → Result Y Fault → Type 0
Gives view (Ok x) read = read ≡ Ok (view x)
Gives view (Err e) read = Fails e read

-- one of two values
pub data Either (A B : Type 0) : Type 0 where
  this : A → Either A B
  that : B → Either A B

-- ---- words

-- these very bytes
unfoldable pub word_at : List ℕ → List ℕ → Result (List ℕ) Fault
word_at [] bytes = Ok bytes
word_at (c ∷ cs) [] = Err Short
word_at (c ∷ cs) (b ∷ bs) = if b == c then word_at cs bs else Err (Bad (suc (length bs)))

-- ---- numbers

abbrev pub is_digit : ℕ → Bool
is_digit b = nat_le 48 b && nat_le b 57

-- whether a number read so far as value continues with the byte: no digit follows a leading 0
abbrev pub grows : ℕ → ℕ → ℕ → Bool
grows limit value b = nat_lt 0 value && (is_digit b && nat_lt (value * 10 + (b - 48)) limit)

-- the digits after the first, up to the byte that ends the number
unfoldable pub digits_at : ℕ → ℕ → ℕ → List ℕ → Result (ℕ × List ℕ) Fault
digits_at limit stop value [] = Err Short
digits_at limit stop value (b ∷ bs) =
    if b == stop
    then Ok (value, bs)
    else (if grows limit value b
    then digits_at limit stop (value * 10 + (b - 48)) bs
    else Err (Bad (suc (length bs))))

-- a number below the limit, and the byte that ends it
unfoldable pub number_at : ℕ → ℕ → Reader ℕ
number_at limit stop [] = Err Short
number_at limit stop (b ∷ bs) =
    if is_digit b then digits_at limit stop (b - 48) bs else Err (Bad (suc (length bs)))

-- the same, but not 0
unfoldable pub positive_at : ℕ → ℕ → Reader ℕ
positive_at limit stop [] = Err Short
positive_at limit stop (b ∷ bs) =
    if b == 48 then Err (Bad (suc (length bs))) else number_at limit stop (b ∷ bs)

-- ---- one reader of others

-- the word, and then what the reader reads
abbrev pub after_at : {A : Type 0} → List ℕ → Reader A → Reader A
after_at word at bytes = word_at word bytes >>= at

-- nothing, which always succeeds
abbrev pub nothing_at : Reader (Unit {0})
nothing_at bytes = Ok (tt, bytes)

-- one value and then another, whose reader may depend on the first
abbrev pub then_at : {A B : Type 0} → Reader A → (A → Reader B) → Reader (A × B)
then_at first second bytes = first bytes >>= λ x. second x.0 x.1 >>= λ y. Ok ((x.0, y.0), y.1)

-- one after the other
infixr 20 ◌then◌
abbrev pub ◌then◌ : {A B : Type 0} → Reader A → Reader B → Reader (A × B)
first then second = then_at first (λ _. second)

-- a value under another name
abbrev pub as_at : {A B : Type 0} → (A → B) → Reader A → Reader B
as_at f at bytes = at bytes >>= λ x. Ok (f x.0, x.1)

-- one of several kinds of spelling: the byte with which those of this kind begin, and their reader
pub record Branch (A : Type 0) : Type 0 where
  pub byte : ℕ
  pub at : Reader A

abbrev pub branch : {A : Type 0} → ℕ → Reader A → Branch A
branch byte at = record { byte = byte; at = at }

-- the first reader where the byte c comes, else the second
abbrev pub or_at : {A : Type 0} → ℕ → Reader A → Reader A → Reader A
or_at c first second [] = Err Short
or_at c first second (b ∷ bs) = if b == c then first (b ∷ bs) else second (b ∷ bs)

-- nothing begins with any byte
abbrev pub none_at : {A : Type 0} → Reader A
none_at [] = Err Short
none_at (b ∷ bs) = Err (Bad (suc (length bs)))

-- the reader of the branch whose byte comes; where there is none, that byte is bad
abbrev pub choice_at : {A : Type 0} → List (Branch A) → Reader A
choice_at [] = none_at
choice_at (r ∷ rs) = or_at r.byte r.at (choice_at rs)

-- an item and the others, or what ends the items
abbrev pub many_with : {S A E : Type 0} → (S → Result ((List A × E) × List ℕ) Fault) → (A → S)
    → Either A E → List ℕ → Result ((List A × E) × List ℕ) Fault
many_with others next (this a) after = others (next a) >>= λ y. Ok ((a ∷ y.0.0, y.0.1), y.1)
many_with others next (that e) after = Ok (([], e), after)

-- fewer items than the number says
unfoldable pub some_at : {S A E : Type 0} → (S → Reader (Either A E)) → (A → S) → ℕ → S
    → Reader (List A × E)
some_at item next zero st bytes = Err Short
some_at item next (suc fuel) st bytes =
    item st bytes >>= λ x. many_with (λ u. some_at item next fuel u x.1) next x.0 x.1

-- Items up to the one that ends them. The items that may come next depend on a state, which the
-- item before it fixes. An item has a byte at least, so that there are no more of them than bytes.
abbrev pub many_at : {S A E : Type 0} → (S → Reader (Either A E)) → (A → S) → S
    → Reader (List A × E)
many_at item next st bytes = some_at item next (suc (length bytes)) st bytes

-- ---- a line of numbers

-- the byte that ends a number with this many after it: a space, or an LF after the last
abbrev pub stop_of : ℕ → ℕ
stop_of zero = 10
stop_of (suc k) = 32

-- n numbers below the limit
unfoldable pub row_at : ℕ → ℕ → Reader (List ℕ)
row_at limit zero bytes = Ok ([], bytes)
row_at limit (suc k) bytes =
    as_at (λ (p : ℕ × List ℕ). p.0 ∷ p.1)
    (then_at (number_at limit (stop_of k)) (λ _. row_at limit k)) bytes

-- ---- all of the bytes

-- there is nothing here
abbrev pub end_at : List ℕ → Result (Unit {0}) Fault
end_at [] = Ok tt
end_at (b ∷ bs) = Err (Bad (suc (length bs)))

-- the value, where nothing follows it
unfoldable pub whole_at : {A : Type 0} → Reader A → List ℕ → Result A Fault
whole_at at bytes = at bytes >>= λ x. end_at x.1 >>= λ _. Ok x.0
