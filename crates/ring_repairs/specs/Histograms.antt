-- Histograms: entry v says how many trials had the number v.
use Rattle.std.specs.Prelude.{◌≡◌, ℕ, suc, ◌+◌, ◌*◌, ◌<◌, ◌≤◌, List, length, slice_index}
use Rattle.ring_model.specs.Numbers.{sum_below}
use Rattle.ring_repairs.specs.Limits.{trial_limit, number_limit}

-- how many trials were counted
unfoldable pub counted : List ℕ → ℕ
counted h = sum_below (slice_index h) (length h)

-- how many of them had a number below v
unfoldable pub counted_below : List ℕ → ℕ → ℕ
counted_below h v = sum_below (slice_index h) v

-- the sum of their numbers
unfoldable pub summed : List ℕ → ℕ
summed h = sum_below (λ v. v * slice_index h v) (length h)

-- a histogram within the limits
pub record IsHistogram (h : List ℕ) : Type 0 where
  pub few : counted h ≤ trial_limit
  pub short : length h ≤ number_limit

-- a histogram of the numbers below n, in which nothing is counted
pub record IsEmpty (n : ℕ) (h : List ℕ) : Type 0 where
  pub numbers : length h ≡ n
  pub none : (v : ℕ) → slice_index h v ≡ 0

-- v is the least number that some trial had
pub record IsLeast (h : List ℕ) (v : ℕ) : Type 0 where
  pub within : v < length h
  pub there : 0 < slice_index h v
  pub none_below : (j : ℕ) → j < v → slice_index h j ≡ 0

-- v is the greatest
pub record IsGreatest (h : List ℕ) (v : ℕ) : Type 0 where
  pub within : v < length h
  pub there : 0 < slice_index h v
  pub none_above : (j : ℕ) → v < j → j < length h → slice_index h j ≡ 0

-- v is the least number such that at least `part` of `whole` of the trials had v or less
pub record IsQuantile (h : List ℕ) (part whole v : ℕ) : Type 0 where
  pub within : v < length h
  pub enough : part * counted h ≤ whole * counted_below h (v + 1)
  pub least : (j : ℕ) → j < v → whole * counted_below h (j + 1) < part * counted h
