-- The first fault, found line by line: the answers of the checker's own functions.
use Rattle.std.specs.Prelude.{◌≡◌, ℕ, ◌+◌, List, [], ◌∷◌, Result, Ok, Err, Option, Some, None}
use Rattle.ring_model.specs.declared.events.Event.{Event}
use Rattle.ring_check.specs.declared.answers.Kind.{Kind}
use Rattle.ring_check.specs.declared.answers.CheckError.{CheckError}
use Rattle.ring_check.specs.declared.answers.CheckError.TheVariants.{Bad, OutOfMemory}
use Rattle.ring_check.specs.Lines.{Line}
use Rattle.ring_check.specs.Table.{Before, fault, after_line}

-- a fault of a line with its number, or else that of the lines after it
abbrev pub or_behind : Option Kind → ℕ → Option (ℕ × Kind) → Option (ℕ × Kind)
or_behind None line behind = behind
or_behind (Some kind) line behind = Some (line + 1, kind)

-- the first line with a fault: its number and its kind
abbrev pub first_fault : Before → List Line → Option (ℕ × Kind)
first_fault b [] = None
first_fault b (l ∷ ls) = or_behind (fault b l) b.line (first_fault (after_line b l) ls)

-- the answer is the fault that the lines have, memory aside
abbrev pub Finds : {X : Type 0} → Option (ℕ × Kind) → Result X CheckError → Type 0
Finds None (Ok x) = Unit {0}
Finds (Some bad) (Err (Bad line kind)) = (line ≡ bad.0) × (kind ≡ bad.1)
Finds f (Err OutOfMemory) = Unit {0}
Finds _ _ = ⊥

-- in a block of a text of this version, after its start line and some events, before any survey
abbrev pub in_block : ℕ → ℕ → ℕ → ℕ → ℕ → List ℕ → List Event → Before
in_block version line rings n k start events = record {
  version = version;
  line = line;
  rings = rings;
  n = n;
  k = k;
  start = start;
  events = events;
  seat = 0;
  position = 0;
}
