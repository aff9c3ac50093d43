-- What is tried, and what it gives: each trial is a function of the study and of the trial's number.
use Rattle.std.specs.Prelude.{◌≡◌, ℕ, ◌+◌, ◌*◌, ◌<◌, ◌≤◌, ◌/◌, ◌==◌, ◌⊎◌, false, List, length, slice_index}
use Rattle.ring_model.specs.Numbers.{count_below}
use Rattle.ring_model.specs.Ring.{Ring, ring_with}
use Rattle.ring_model.specs.Runs.{granted_passes}
use Rattle.ring_model.specs.RepairLaws.{longest_repair}
use Rattle.ring_state.specs.Sizes.{Size, IsSize}
use Rattle.ring_repairs.specs.Limits.{trial_limit, state_limit}
use Rattle.ring_repairs.specs.Draws.{generator}
use Rattle.ring_repairs.specs.Daemons.{daemon_choices, draws}
use Rattle.ring_repairs.specs.Rounds.{memory_after, rounds_of}
use Rattle.ring_repairs.specs.Starts.{states, start_values, start_left, AreFaultsFor}
use Rattle.ring_repairs.specs.Histograms.{counted}
use Rattle.ring_repairs.specs.declared.daemons.Daemon.{Daemon}
use Rattle.ring_repairs.specs.declared.daemons.Memory.{Memory}
use Rattle.ring_repairs.specs.declared.studies.StudyError.{StudyError}
use Rattle.ring_repairs.specs.declared.studies.StudyError.TheVariants as fault
use Rattle.ring_repairs.specs.declared.starts.Start.{Start}
use Rattle.ring_repairs.specs.declared.starts.Start.TheVariants.{Any, Faults, All}

-- a size, where each trial starts, who moves next, how many trials there are, and the seed
pub record StudyData : Type 0 where
  pub size : Size
  pub start : Start
  pub daemon : Daemon
  pub trials : ℕ
  pub seed : ℕ

abbrev pub study_with : Size → Start → Daemon → ℕ → ℕ → StudyData
study_with size start daemon trials seed = record {
  size = size;
  start = start;
  daemon = daemon;
  trials = trials;
  seed = seed;
}

-- of all states there is one trial each, if the daemon draws nothing
abbrev pub IsOnce : Start → Daemon → ℕ → Type 0
IsOnce All d trials = draws d ≡ false → trials ≡ 1
IsOnce Any d trials = Unit {0}
IsOnce (Faults f) d trials = Unit {0}

-- how many trials there are in all: as many of each state that the start goes through
abbrev pub trial_count : StudyData → ℕ
trial_count s = s.trials * states s.start s.size

-- A study within the limits. Where a daemon draws nothing, and the start neither, one trial of a state
-- is as each other.
pub record IsStudy (s : StudyData) : Type 0 where
  pub size : IsSize s.size
  pub some : 1 ≤ s.trials
  pub faults : AreFaultsFor s.size.n s.start
  pub states : states s.start s.size ≤ state_limit
  pub most : trial_count s ≤ trial_limit
  pub once : IsOnce s.start s.daemon s.trials

-- the first thing that is wrong with a study of this size
abbrev pub IsFirstFault : StudyData → StudyError → Type 0
IsFirstFault s fault.NoTrials = s.trials ≡ 0
IsFirstFault s fault.ManyFaults =
    (1 ≤ s.trials) × (s.trials ≤ trial_limit) × (AreFaultsFor s.size.n s.start → ⊥)
IsFirstFault s fault.ManyStates =
    (1 ≤ s.trials)
    × (s.trials ≤ trial_limit)
    × AreFaultsFor s.size.n s.start
    × (state_limit < states s.start s.size)
IsFirstFault s fault.ManyTrials =
    (trial_limit < s.trials)
    ⊎ (AreFaultsFor s.size.n s.start
    × (states s.start s.size ≤ state_limit)
    × (trial_limit < trial_count s))
IsFirstFault s fault.OneTrial =
    (1 ≤ s.trials)
    × AreFaultsFor s.size.n s.start
    × (states s.start s.size ≤ state_limit)
    × (trial_count s ≤ trial_limit)
    × (IsOnce s.start s.daemon s.trials → ⊥)

-- the ring with which trial t starts: of each state there are as many trials, one after the other
unfoldable pub trial_ring : StudyData → ℕ → Ring
trial_ring s t =
    ring_with s.size.k (start_values s.start s.size (t / s.trials) (generator s.seed t))

-- what its daemon remembers then: the generator after the words of the start; no machine was asked
unfoldable pub trial_memory : StudyData → ℕ → Memory
trial_memory s t = record { words = start_left s.start s.size (generator s.seed t); asked = 0 }

-- the machines that pass until the ring is settled: as many as the longest repair has passes are
-- enough (`TrialsSettle`)
unfoldable pub trial_choices : StudyData → ℕ → List ℕ
trial_choices s t =
    daemon_choices s.daemon (longest_repair s.size.n) (trial_memory s t) (trial_ring s t)

-- the number of a trial: the granted passes until its ring is first settled
unfoldable pub trial_passes : StudyData → ℕ → ℕ
trial_passes s t = length (granted_passes (trial_ring s t) (trial_choices s t))

-- how many machines its daemon has asked in turn by then; none, if it is another one than `Turn`
unfoldable pub trial_turns : StudyData → ℕ → ℕ
trial_turns s t =
    (memory_after s.daemon (longest_repair s.size.n) (trial_memory s t) (trial_ring s t)).asked

-- how many rounds it has begun by then
unfoldable pub trial_rounds : StudyData → ℕ → ℕ
trial_rounds s t = rounds_of s.size.n (trial_turns s t)

-- the histogram counts the first `done` trials, each once, where trial t has the number `number t`
pub record IsCounted (number : ℕ → ℕ) (done : ℕ) (h : List ℕ) : Type 0 where
  pub each : (v : ℕ) → v < length h → slice_index h v ≡ count_below (λ t. number t == v) done
  pub all : counted h ≡ done

-- the trials of a study that are done, the first of them, and their histogram
pub record RepairsData : Type 0 where
  pub study : StudyData
  pub done : ℕ
  pub passes : List ℕ

abbrev pub repairs_with : StudyData → ℕ → List ℕ → RepairsData
repairs_with study done passes = record { study = study; done = done; passes = passes }

-- the histogram has an entry for each number that a trial can have, and counts each trial that is
-- done, once
pub record AreRepairs (r : RepairsData) : Type 0 where
  pub study : IsStudy r.study
  pub within : r.done ≤ trial_count r.study
  pub numbers : length r.passes ≡ longest_repair r.study.size.n + 1
  pub counted : IsCounted (trial_passes r.study) r.done r.passes
