-- What is kept of each key (this project's own).
use Rattle.std.specs.Prelude.{ℕ, cond, List, [], ◌∷◌, if◌then◌else◌, ◌==◌, Option, None, Some}
use Rattle.std.specs.declared.cmp.Ordering.{Ordering}
use Rattle.std.specs.declared.cmp.Ordering.TheVariants.{Less, Equal, Greater}
use Rattle.std.specs.Option.{option_map}
use Rattle.std.specs.Ordering.{nat_cmp}
use Rattle.std.specs.BTreeMap.{is_at, insert_entry}
use Rattle.std.specs.Map.{lookup, remove_entry}
use Rattle.text_lines.specs.LongNumbers.{order_at}
use Rattle.line_replica.specs.Reading.{is_to_asker}
use Rattle.line_replica.specs.declared.keys.Turn.{Turn}
use Rattle.line_replica.specs.declared.keys.Turn.TheVariants as turn

-- the last number of a key, and the first line of its answer, which is sent again
pub record ToldView : Type 0 where
  pub number : ℕ
  pub first : List ℕ

-- the keys, rising
abbrev pub Table : Type 0
Table = List (ℕ × ToldView)

abbrev pub told_of : Table → ℕ → Option ToldView
told_of keys key = lookup (is_at (nat_cmp key)) keys

abbrev pub last_of : Table → ℕ → Option ℕ
last_of keys key = option_map (λ (t : ToldView). t.number) (told_of keys key)

-- this number is the last of the key, with this first line
abbrev pub with_told : Table → ℕ → ℕ → List ℕ → Table
with_told keys key number first =
    insert_entry nat_cmp keys key (record { number = number; first = first })

abbrev pub without : Table → ℕ → Table
without keys key = remove_entry (is_at (nat_cmp key)) keys

-- whether a number is new, or the last, or one before it
abbrev pub turn_by : Ordering → ℕ → Turn
turn_by Less last = turn.Past last
turn_by Equal last = turn.Again
turn_by Greater last = turn.Fresh

abbrev pub turn_after : Option ℕ → ℕ → Turn
turn_after None number = turn.Fresh
turn_after (Some last) number = turn_by (nat_cmp number last) last

abbrev pub first_of : Option ToldView → List ℕ
first_of None = []
first_of (Some told) = told.first

-- the first line of a text, with its LF
abbrev pub first_line : List ℕ → List ℕ
first_line [] = []
first_line (b ∷ bs) = if b == 10 then b ∷ [] else b ∷ first_line bs

-- the first line of the answer to an input, if it is for the client that asked, and else none: an
-- answer to another client may be out of date when it is sent again
abbrev pub line_to_asker : List ℕ → List ℕ → List ℕ
line_to_asker input said = cond (is_to_asker (order_at 32 input) said) (first_line said) []

-- nothing is kept of a key whose last number is this one
abbrev pub forgotten_if : Turn → Table → ℕ → Table
forgotten_if turn.Again keys key = without keys key
forgotten_if _ keys key = keys
