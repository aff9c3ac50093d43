-- The rows of a ring whose machines are chosen one after the other: its states, before the first
-- choice and after each (this project's own).
use Rattle.std.specs.Prelude.{ℕ, zero, suc, ◌+◌, List, [], ◌∷◌, ◌++◌, codes, length, take, slice_index, Option, None, Some, cond}
use Rattle.std.specs.Fmt.{decimal}
use Rattle.std.specs.List.{flat_map, range_with_len}
use Rattle.ring_model.specs.Ring.{Ring, is_privileged, privileged_count, rest}
use Rattle.ring_model.specs.Runs.{after_passes, granted_passes}
use Rattle.history_states.specs.Cells.{Cell, Number, Word, Numbers, cell_text}
use Rattle.history_states.specs.Rows.{privileged_of}
use Rattle.history_states.specs.declared.form.Form.TheVariants.{Words}
use Rattle.step_states.specs.declared.asked.Asked.{Asked}

-- the ring after the first n choices, each of which asks to pass
abbrev pub ring_after : Ring → List ℕ → ℕ → Ring
ring_after r choices place = after_passes r (take place choices)

-- how many of the first n choices were granted
abbrev pub grants_after : Ring → List ℕ → ℕ → ℕ
grants_after r choices place = length (granted_passes r (take place choices))

-- a choice, made in this ring: it is granted where its machine is privileged
abbrev pub asked_in : Ring → ℕ → Asked
asked_in r machine = record {
  machine = machine;
  granted = is_privileged r.values machine;
}

-- the last of the first n choices, if n is not 0
abbrev pub last_asked : Ring → List ℕ → ℕ → Option Asked
last_asked r choices zero = None
last_asked r choices (suc i) = Some (asked_in (ring_after r choices i) (slice_index choices i))

-- what came of a choice; of the row before the first one, `start`
abbrev pub kind_of : Option Asked → List ℕ
kind_of None = codes "start"
kind_of (Some asked) = cond asked.granted (codes "granted") (codes "refused")

-- its machine
abbrev pub machine_of : Option Asked → Option ℕ
machine_of None = None
machine_of (Some asked) = Some asked.machine

-- which grant it was, by how many there were with it, if it was one
abbrev pub number_of : Option Asked → ℕ → Option ℕ
number_of None grants = None
number_of (Some asked) grants = cond asked.granted (Some grants) None

-- The cells of a row after the number of choices: the last choice, the state after it, and its
-- measures, as `states` has them of an event. There is no corruption: the calm is the number of
-- grants.
abbrev pub row_cells : Option Asked → Ring → ℕ → List Cell
row_cells last r grants =
    Word (codes "kind") (kind_of last)
    ∷ Number (codes "machine") (machine_of last)
    ∷ Number (codes "number") (number_of last grants)
    ∷ Numbers (codes "states") r.values
    ∷ Number (codes "privileged") (Some (privileged_count r.values))
    ∷ Numbers (codes "at") (privileged_of r.values)
    ∷ Number (codes "rest") (Some (rest r))
    ∷ Number (codes "calm") (Some grants)
    ∷ []

-- a row
abbrev pub row_text : ℕ → Option Asked → Ring → ℕ → List ℕ
row_text place last r grants =
    (codes "event " ++ decimal place)
    ++ (flat_map (cell_text Words) (row_cells last r grants) ++ codes "\n")

-- the row after the first n choices
abbrev pub row : Ring → List ℕ → ℕ → List ℕ
row r choices place =
    row_text place (last_asked r choices place) (ring_after r choices place)
    (grants_after r choices place)

-- the rows: before the first choice, and after each
abbrev pub rows : Ring → List ℕ → List ℕ
rows r choices = flat_map (row r choices) (range_with_len 0 (length choices + 1))
