-- The lines of inputs: the number of a connection, and what it asks (this project's own).
use Rattle.std.specs.Prelude.{◌≡◌, ℕ, ◌<◌, ◌≤◌, ◌^◌, List, ◌++◌, length, take, None, Some, ◌⊎◌}
use Rattle.text_lines.specs.Limits.{line_limit}
use Rattle.text_lines.specs.LongNumbers.{number_spaced, number_ended}
use Rattle.lock_protocol.specs.declared.inputs.Fault.TheVariants as fault
use Rattle.lock_protocol.specs.Asks.{Ask, ask_text, HasName, heard}
use Rattle.lock_protocol.specs.Views.{Input}
use Rattle.lock_protocol.specs.Views as input

-- the line of a connection that asks this
abbrev pub input_line : ℕ → Ask → List ℕ
input_line client ask = number_spaced client ++ ask_text ask

-- The line is spelled so, and what it names as a lock may be a lock's name.
pub record IsInput (client : ℕ) (ask : Ask) (line : List ℕ) : Type 0 where
  pub is : line ≡ input_line client ask
  pub named : HasName ask
  pub short : length line ≤ line_limit

-- The bytes begin with a connection's number, and a space or the end of the line.
abbrev pub IsFront : ℕ → List ℕ → Type 0
IsFront client bytes =
    (rest : List ℕ) × ((bytes ≡ number_spaced client ++ rest) ⊎ (bytes ≡ number_ended client ++ rest))

-- the part of a line that is looked at: of a longer one the first 8 KiB
unfoldable pub front_of : List ℕ → List ℕ
front_of line = take line_limit line

-- The line is a connection's, whatever it asks: it begins with the connection's number, of 64 bits.
pub record IsOf (client : ℕ) (line : List ℕ) : Type 0 where
  pub bits : client < 2 ^ 64
  pub front : IsFront client (front_of line)

-- What is read of a line: what a connection asks, with numbers of 64 bits; or that the line is a
-- connection's, and its ask has a greater number, or it asks nothing; or that the line is not a
-- connection's.
abbrev pub IsReadAs : List ℕ → Input → Type 0
IsReadAs line (input.Asked client ask) =
    IsOf client line × IsInput client ask line × (heard ask ≡ Some ask)
IsReadAs line (input.Refused client fault.Number) =
    IsOf client line × ((ask : Ask) × IsInput client ask line × (heard ask ≡ None))
IsReadAs line (input.Refused client fault.Syntax) =
    IsOf client line × ((ask : Ask) → IsInput client ask line → ⊥)
IsReadAs line input.Nobody = (client : ℕ) → IsOf client line → ⊥

-- a law: a line is read in one way
abbrev pub OneReading : Type 0
OneReading = (line : List ℕ) (a b : Input) → IsReadAs line a → IsReadAs line b → a ≡ b

-- a law: no two inputs of names and of numbers of 64 bits have one line
abbrev pub OneLineEach : Type 0
OneLineEach =
    (c d : ℕ) (a b : Ask) → c < 2 ^ 64 → d < 2 ^ 64 → HasName a → HasName b → heard a ≡ Some a
    → heard b ≡ Some b → input_line c a ≡ input_line d b → (c ≡ d) × (a ≡ b)
