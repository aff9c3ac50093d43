-- Which lines of a log the service inside gets: each number of a key once (this project's own).
use Rattle.std.specs.Prelude.{ℕ, cond, List, [], ◌∷◌, ◌++◌, map, Option, None, Some}
use Rattle.std.specs.Ordering.{nat_cmp}
use Rattle.std.specs.BTreeMap.{is_at, insert_entry}
use Rattle.std.specs.Map.{lookup, remove_entry}
use Rattle.line_replica.specs.declared.keys.Turn.{Turn}
use Rattle.line_replica.specs.declared.keys.Turn.TheVariants as turn
use Rattle.line_replica.specs.declared.reading.Tag.{Tag}
use Rattle.line_replica.specs.Keys.{ToldView, Table, turn_after}
use Rattle.line_replica.specs.Reading.{Heard, Tagged, Plain, heard, did_at, is_forget}

-- the last number of each key
abbrev pub Numbers : Type 0
Numbers = List (ℕ × ℕ)

abbrev pub number_of : ℕ × ToldView → ℕ × ℕ
number_of e = (e.0, e.1.number)

abbrev pub numbers_of : Table → Numbers
numbers_of keys = map number_of keys

abbrev pub turn_in : Numbers → Tag → Turn
turn_in numbers tag = turn_after (lookup (is_at (nat_cmp tag.key)) numbers) tag.number

-- what the service inside gets: a line whose number is new
abbrev pub given_at : Turn → List ℕ → List (List ℕ)
given_at turn.Fresh input = input ∷ []
given_at _ input = []

abbrev pub given_after : Option (List ℕ) → Numbers → Tag → List ℕ → List (List ℕ)
given_after (Some text) numbers tag rest = []
given_after None numbers tag rest =
    cond (is_forget rest) [] (given_at (turn_in numbers tag) rest)

-- a plain line, or what follows a key and a number; a place is the replica's
abbrev pub given_of : Heard → Numbers → List ℕ → List (List ℕ)
given_of (Tagged tag rest) numbers line = given_after (did_at rest) numbers tag rest
given_of Plain numbers line = line ∷ []
given_of _ numbers line = []

abbrev pub with_number : Numbers → Tag → Numbers
with_number numbers tag = insert_entry nat_cmp numbers tag.key tag.number

-- the last numbers after a line
abbrev pub numbers_at : Turn → Numbers → Tag → Numbers
numbers_at turn.Fresh numbers tag = with_number numbers tag
numbers_at _ numbers tag = numbers

abbrev pub numbers_but : Turn → Numbers → Tag → Numbers
numbers_but turn.Again numbers tag = remove_entry (is_at (nat_cmp tag.key)) numbers
numbers_but _ numbers tag = numbers

abbrev pub numbers_behind : Option (List ℕ) → Numbers → Tag → List ℕ → Numbers
numbers_behind (Some text) numbers tag rest = with_number numbers tag
numbers_behind None numbers tag rest =
    cond (is_forget rest) (numbers_but (turn_in numbers tag) numbers tag)
    (numbers_at (turn_in numbers tag) numbers tag)

abbrev pub numbers_after : Heard → Numbers → Numbers
numbers_after (Tagged tag rest) numbers = numbers_behind (did_at rest) numbers tag rest
numbers_after _ numbers = numbers

-- The lines of a log that the service inside gets, without those that were sent again: a function
-- only of the log and of the last numbers.
abbrev pub given : Numbers → List (List ℕ) → List (List ℕ)
given numbers [] = []
given numbers (line ∷ lines) =
    given_of (heard line) numbers line
    ++ given (numbers_after (heard line) numbers) lines
