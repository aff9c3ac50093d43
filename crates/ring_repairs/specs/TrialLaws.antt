-- The laws of trials.
use Rattle.std.specs.Prelude.{◌≡◌, ℕ, ◌<◌, ◌≤◌, ◌==◌, true, false, cond, List, length, slice_index, take}
use Rattle.ring_model.specs.Ring.{IsRing, is_settled, bound}
use Rattle.ring_model.specs.Runs.{after_passes, granted_passes}
use Rattle.ring_model.specs.RepairLaws.{longest_repair}
use Rattle.ring_state.specs.Sizes.{Size, IsSize}
use Rattle.ring_repairs.specs.Starts.{states, numbered}
use Rattle.ring_repairs.specs.declared.starts.Start.TheVariants.{All}
use Rattle.ring_repairs.specs.declared.daemons.Daemon.TheVariants.{Turn}
use Rattle.ring_repairs.specs.Rounds.{asked_from, most_rounds}
use Rattle.ring_repairs.specs.Studies.{StudyData, IsStudy, trial_ring, trial_choices, trial_passes, trial_turns, trial_rounds}

-- each trial starts with a ring of the study's size
abbrev pub TrialsStart : Type 0
TrialsStart =
    (s : StudyData) (t : ℕ) → IsStudy s
    → IsRing (trial_ring s t)
    × ((trial_ring s t).k ≡ s.size.k)
    × (length (trial_ring s t).values ≡ s.size.n)

-- the choices of a trial settle its ring
abbrev pub TrialsSettle : Type 0
TrialsSettle =
    (s : StudyData) (t : ℕ) → IsStudy s
    → is_settled (after_passes (trial_ring s t) (trial_choices s t)).values ≡ true

-- fewer of them do not: the number of a trial is that until its ring is first settled
abbrev pub TrialsSettleFirst : Type 0
TrialsSettleFirst =
    (s : StudyData) (t p : ℕ) → p < length (trial_choices s t)
    → is_settled (after_passes (trial_ring s t) (take p (trial_choices s t))).values ≡ false

-- each choice is granted, so that the number of a trial is that of its choices
abbrev pub TrialsAreGranted : Type 0
TrialsAreGranted =
    (s : StudyData) (t : ℕ) → IsStudy s
    → (granted_passes (trial_ring s t) (trial_choices s t) ≡ trial_choices s t)
    × (trial_passes s t ≡ length (trial_choices s t))

-- no trial has more passes than the longest repair, nor more than the bound
abbrev pub TrialsAreBounded : Type 0
TrialsAreBounded =
    (s : StudyData) (t : ℕ) → IsStudy s
    → (trial_passes s t ≤ longest_repair s.size.n) × (trial_passes s t ≤ bound s.size.n)

-- the daemon `Turn` asks the machines in turn, from machine 0 on: the trial's choices are those that
-- are granted, and in fewer turns the ring is not settled
abbrev pub TurnsAreAsked : Type 0
TurnsAreAsked =
    (s : StudyData) (t : ℕ) → IsStudy s → s.daemon ≡ Turn
    → (granted_passes (trial_ring s t) (asked_from s.size.n 0 (trial_turns s t))
    ≡ trial_choices s t)
    × ((turns : ℕ) → turns < trial_turns s t
    → is_settled (after_passes (trial_ring s t) (asked_from s.size.n 0 turns)).values ≡ false)

-- it begins one round, or none where the ring is settled at the start: each machine that is asked has
-- then the value of the one before it, so that after a round all have the same; each other daemon
-- begins none
abbrev pub OneRoundIsEnough : Type 0
OneRoundIsEnough =
    (s : StudyData) (t : ℕ) → IsStudy s
    → (s.daemon ≡ Turn → trial_rounds s t ≡ cond (trial_passes s t == 0) 0 1)
    × ((s.daemon ≡ Turn → ⊥) → trial_rounds s t ≡ 0)

-- no trial has more rounds than settle every ring, whoever is asked first in a round
abbrev pub RoundsAreBounded : Type 0
RoundsAreBounded = (s : StudyData) (t : ℕ) → IsStudy s → trial_rounds s t ≤ most_rounds s.size.n

-- each state in which machine 0 holds 0 has just one number, which is below how many states there are
abbrev pub AllStatesOnce : Type 0
AllStatesOnce =
    (size : Size) (s : List ℕ) → IsSize size → length s ≡ size.n
    → ((i : ℕ) → i < length s → slice_index s i < size.k)
    → slice_index s 0 ≡ 0
    → (number : ℕ)
    × (number < states All size)
    × (numbered size number ≡ s)
    × ((other : ℕ) → other < states All size → numbered size other ≡ s → other ≡ number)
