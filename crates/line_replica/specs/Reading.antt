-- What is read of a line (this project's own).
use Rattle.std.specs.Prelude.{ℕ, Bool, true, false, cond, nat_lt, ◌+◌, List, [], ◌∷◌, length, take, ◌==◌, ◌&&◌, ◌||◌, Option, None, Some, Result, Ok, Err, codes}
use Rattle.std.specs.List.{list_all}
use Rattle.text_lines.specs.declared.fault.Fault.{Fault}
use Rattle.text_lines.specs.Reading.{word_at}
use Rattle.text_lines.specs.Limits.{line_limit}
use Rattle.text_lines.specs.LongNumbers.{order_at}
use Rattle.segment_files.specs.Spelling.{digest_digits, is_digit}
use Rattle.line_replica.specs.declared.reading.Tag.{Tag}

abbrev pub on_read : {X : Type 0} → Result (List ℕ) Fault → X → (List ℕ → X) → X
on_read (Ok rest) none some = some rest
on_read (Err e) none some = none

-- what follows the word did, if it is there
unfoldable pub did_at : List ℕ → Option (List ℕ)
did_at rest = on_read (word_at (codes "did ") rest) None Some

abbrev pub is_none_left : List ℕ → Bool
is_none_left [] = true
is_none_left (b ∷ bs) = false

-- it is the word forget
unfoldable pub is_forget : List ℕ → Bool
is_forget rest = on_read (word_at (codes "forget\n") rest) false is_none_left

-- it begins with a number and a space
abbrev pub is_some_number : Result (Option ℕ × List ℕ) Fault → Bool
is_some_number (Ok (Some n, rest)) = true
is_some_number (Ok (None, rest)) = false
is_some_number (Err e) = false

abbrev pub may_follow_by : Option (List ℕ) → List ℕ → Bool
may_follow_by (Some text) rest = true
may_follow_by None rest = is_forget rest || is_some_number (order_at 32 rest)

-- what may follow a key and a number: the word did and a text, the word forget, or an input, which
-- begins with the number of the client that asks and a space
unfoldable pub may_follow : List ℕ → Bool
may_follow rest = may_follow_by (did_at rest) rest

-- the number is read, and what follows it, if that may
abbrev pub with_number : ℕ → Result (Option ℕ × List ℕ) Fault → Option (Tag × List ℕ)
with_number key (Ok (Some number, rest)) =
    cond (may_follow rest) (Some (record { key = key; number = number }, rest)) None
with_number key (Ok (None, rest)) = None
with_number key (Err e) = None

abbrev pub with_key : Result (Option ℕ × List ℕ) Fault → Option (Tag × List ℕ)
with_key (Ok (Some key, rest)) = with_number key (order_at 32 rest)
with_key (Ok (None, rest)) = None
with_key (Err e) = None

-- the key and the number with which a line begins, and what follows them, if that may
unfoldable pub tagged_at : List ℕ → Option (Tag × List ℕ)
tagged_at line = with_key (order_at 32 line)

-- the first line that is kept of a text after did: none if it is empty
abbrev pub kept_text : List ℕ → List ℕ
kept_text [] = []
kept_text (b ∷ []) = cond (b == 10) [] (b ∷ [])
kept_text (b ∷ c ∷ bs) = b ∷ c ∷ bs

-- ---- whose answer it is

-- an answer begins with this number and a space
abbrev pub is_to : ℕ → Result (Option ℕ × List ℕ) Fault → Bool
is_to n (Ok (Some m, rest)) = m == n
is_to n (Ok (None, rest)) = false
is_to n (Err e) = false

-- it begins with the number with which an input does: it is for the client that asked
abbrev pub is_to_asker : Result (Option ℕ × List ℕ) Fault → List ℕ → Bool
is_to_asker (Ok (Some n, rest)) said = is_to n (order_at 32 said)
is_to_asker (Ok (None, rest)) said = false
is_to_asker (Err e) said = false

-- ---- a place in the log

-- the number that ends the line
abbrev pub last_number : Result (Option ℕ × List ℕ) Fault → Option ℕ
last_number (Ok (number, [])) = number
last_number (Ok (number, b ∷ bs)) = None
last_number (Err e) = None

-- the word at, and a place
unfoldable pub place_at : List ℕ → Option ℕ
place_at line = on_read (word_at (codes "at ") line) None (λ rest. last_number (order_at 10 rest))

-- a digest that ends the line
abbrev pub is_last_digest : List ℕ → Bool
is_last_digest rest =
    (length rest == digest_digits + 1)
    && list_all is_digit (take digest_digits rest)

abbrev pub with_digest : Result (Option ℕ × List ℕ) Fault → Option (ℕ × List ℕ)
with_digest (Ok (Some place, rest)) =
    cond (is_last_digest rest) (Some (place, take digest_digits rest)) None
with_digest (Ok (None, rest)) = None
with_digest (Err e) = None

-- the word at, a place and a digest
unfoldable pub digest_at : List ℕ → Option (ℕ × List ℕ)
digest_at line =
    on_read (word_at (codes "at ") line) None (λ rest. with_digest (order_at 32 rest))

-- ---- all of it

-- what a line is: one with a key and a number, and this after them; a place in the log, which is
-- to be answered; a place with its digest; or a plain one, for the service inside
pub data Heard : Type 0 where
  Tagged : (tag : Tag) (rest : List ℕ) → Heard
  Place : (place : ℕ) → Heard
  Digest : (place : ℕ) (digest : List ℕ) → Heard
  Plain : Heard

abbrev pub of_digest : Option (ℕ × List ℕ) → Heard
of_digest (Some (place, digest)) = Digest place digest
of_digest None = Plain

abbrev pub of_place : Option ℕ → List ℕ → Heard
of_place (Some place) line = Place place
of_place None line = of_digest (digest_at line)

abbrev pub of_tagged : Option (Tag × List ℕ) → List ℕ → Heard
of_tagged (Some (tag, rest)) line = Tagged tag rest
of_tagged None line = of_place (place_at line) line

-- a line that is too long is a plain one
unfoldable pub heard : List ℕ → Heard
heard line = cond (nat_lt line_limit (length line)) Plain (of_tagged (tagged_at line) line)
