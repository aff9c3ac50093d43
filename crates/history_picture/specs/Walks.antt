-- The state of the walk over the columns: the runs of each machine so far (this project's own; no public clause names it).
use Rattle.std.specs.Prelude.{◌≡◌, ℕ, ◌<◌, Bool, List, [], ◌++◌, length, get_or, map, Option, Some, None}
use Rattle.std.specs.List.{flat_map, slice_get}
use Rattle.ring_model.specs.Ring.{is_privileged}
use Rattle.saved_history.specs.Content.{Block}
use Rattle.history_picture.specs.declared.stretches.Run.{Run}
use Rattle.history_picture.specs.declared.stretches.Row.{Row}
use Rattle.history_picture.specs.Stretches.{Stretch, begin_after, ended_from, run_from, run_begin, runs_ended, pieces}
use Rattle.history_picture.specs.Picture.{privileged_in, rectangle}

abbrev pub stretch_of : Run → Stretch
stretch_of run = record { begin = run.begin; end = run.end }

-- a row after one column more
pub record IsLooked (column : ℕ) (privileged : Bool) (before : Row) (behind : Row) : Type 0 where
  pub begin : behind.begin ≡ begin_after before.begin column privileged
  pub ended : map stretch_of behind.ended.items
      ≡ map stretch_of before.ended.items ++ ended_from before.begin column privileged

abbrev pub AreLooked : ℕ → List ℕ → List Row → List Row → Type 0
AreLooked column values before behind =
    (i : ℕ) (d : Row) → i < length before
    → IsLooked column (is_privileged values i) (get_or before i d) (get_or behind i d)

-- a row has the runs of a test over n columns
pub record IsRow (p : ℕ → Bool) (columns : ℕ) (row : Row) : Type 0 where
  pub begin : row.begin ≡ run_begin p columns
  pub ended : map stretch_of row.ended.items ≡ runs_ended p columns

abbrev pub AreNew : List Row → Type 0
AreNew rows = (i : ℕ) (d : Row) (p : ℕ → Bool) → i < length rows → IsRow p 0 (get_or rows i d)

abbrev pub AreRows : Block → ℕ → ℕ → List Row → Type 0
AreRows b from columns rows =
    (i : ℕ) (d : Row) → i < length rows → IsRow (privileged_in b from i) columns (get_or rows i d)

-- the stretches of a row over n columns
abbrev pub stretches_to : ℕ → Row → List Stretch
stretches_to columns row = map stretch_of row.ended.items ++ run_from row.begin columns

abbrev pub row_to : ℕ → ℕ → ℕ → Option Row → List ℕ
row_to n columns machine None = []
row_to n columns machine (Some row) =
    flat_map (rectangle n columns machine) (stretches_to columns row)

-- the text of all rows
abbrev pub rows_to : ℕ → ℕ → List Row → List ℕ
rows_to n columns rows = pieces (λ i. row_to n columns i (slice_get rows i)) (length rows)
