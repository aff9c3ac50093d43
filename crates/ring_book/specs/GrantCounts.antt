-- The facts that keep the counters of grants within their type, and that say when there is nothing
-- to clear.
use Rattle.std.specs.Prelude.{◌≡◌, ◌↔◌, ◌+◌, ◌<◌, ◌≤◌, ℕ, List, length, slice_index, Bool, true, replicate}

-- each two counters differ by at most 1
abbrev pub IsEven : List ℕ → Type 0
IsEven counts =
    (i j : ℕ) → i < length counts → j < length counts
    → slice_index counts i ≤ slice_index counts j + 1

-- no counter is above the total, and the mark is set exactly where those of the settled run are 0;
-- these differ by at most 1, since in a settled run the grants go round
pub record IsCounted (total : ℕ) (each settled : List ℕ) (is_clear : Bool) : Type 0 where
  pub same : length each ≡ length settled
  pub few : (i : ℕ) → slice_index each i ≤ total
  pub few_settled : (i : ℕ) → slice_index settled i ≤ total
  pub clear : is_clear ≡ true ↔ settled ≡ replicate (length settled) 0
  pub even : IsEven settled
