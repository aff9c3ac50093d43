-- Parts of the trials of a study, and how their histograms are joined.
use Rattle.std.specs.Prelude.{◌≡◌, ℕ, ◌+◌, ◌<◌, ◌≤◌, ◌==◌, List, length, slice_index}
use Rattle.ring_model.specs.Numbers.{count_below}
use Rattle.ring_model.specs.RepairLaws.{longest_repair}
use Rattle.ring_repairs.specs.Histograms.{counted}
use Rattle.ring_repairs.specs.Studies.{StudyData, IsStudy, trial_count, trial_passes, IsCounted}

-- the histogram counts n trials more than the old one did, each once: those from `first` on
pub record IsCountedOn (number : ℕ → ℕ) (first n : ℕ) (old new : List ℕ) : Type 0 where
  pub numbers : length new ≡ length old
  pub each : (v : ℕ) → v < length old
      → slice_index new v ≡ slice_index old v + count_below (λ t. number (first + t) == v) n
  pub all : counted new ≡ counted old + n

-- the histogram h has just the counts of the histograms a and b, which are as long
pub record IsJoined (a b h : List ℕ) : Type 0 where
  pub numbers : length h ≡ length a
  pub each : (v : ℕ) → v < length a → slice_index h v ≡ slice_index a v + slice_index b v

-- the histogram counts n trials of a study, each once: those from `first` on
pub record IsPart (s : StudyData) (first n : ℕ) (h : List ℕ) : Type 0 where
  pub within : first + n ≤ trial_count s
  pub numbers : length h ≡ longest_repair s.size.n + 1
  pub counted : IsCounted (λ t. trial_passes s (first + t)) n h
