-- How far a writer got with a table (this project's own).
use Rattle.std.specs.Prelude.{ℕ, ◌<◌, ◌≤◌, List, length, Option, Result, Ok, Err}
use Rattle.std.specs.Io.KnownBytes.{Appends}
use Rattle.text_lines.specs.Writing.{Wrote}
use Rattle.ring_model.specs.Limits.{machine_limit}
use Rattle.saved_history.specs.declared.saved.SavedRing.{SavedRing}
use Rattle.history_states.specs.declared.tables.StatesFault.{StatesFault}
use Rattle.history_states.specs.declared.tables.StatesFault.TheVariants.{Write, OutOfMemory}

-- The writer holds all of the table after what it held; at its own fault a prefix that lacks a byte
-- at least, and out of memory a prefix.
abbrev pub HasTable : Option (List ℕ) → Option (List ℕ) → Result (Unit {0}) StatesFault → List ℕ
    → Type 0
HasTable old new (Ok u) text = Appends old new text
HasTable old new (Err Write) text = (left : List ℕ) × (0 < length left) × Wrote old new text left
HasTable old new (Err OutOfMemory) text = (left : List ℕ) × Wrote old new text left

-- a ring has a value or more, and no more machines than a ring may have
pub record IsSized (ring : SavedRing) : Type 0 where
  pub some : 0 < ring.k
  pub few : ring.n ≤ machine_limit
