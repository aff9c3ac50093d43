-- The locks of a segment, with what its journal has had (this project's own).
use Rattle.std.specs.Prelude.{ℕ, List, Bool, false, Option, None, Some, ◌≡◌, ◌+◌, ◌-◌, ◌||◌, slice_get}
use Rattle.std.specs.List.{sum_by}
use Rattle.ring_service.specs.Due.{lines_of}
use Rattle.held_locks.specs.declared.answers.HoldEnd.{HoldEnd}
use Rattle.held_locks.specs.declared.answers.Left.{Left}
use Rattle.held_locks.specs.Kept.{LockView}
use Rattle.held_locks.specs.Asked.{events_at}
use Rattle.lock_protocol.specs.Names.{Names}
use Rattle.lock_journal.specs.Due.{has_short}
use Rattle.lock_journal.specs.Segments.{rings_of}

-- the locks, and their names; what the client that left last held; how many lines more the journal
-- may have until the segment is due; and whether a lock was short after some line
pub record SegmentView : Type 0 where
  pub locks : List LockView
  pub names : Names
  pub left : List Left
  pub remaining : ℕ
  pub short : Bool

-- once no lock was short, none is
abbrev pub IsWatched : List LockView → Bool → Type 0
IsWatched locks short = short ≡ false → has_short locks ≡ false

-- ---- the lines of the journal

-- those with which it begins: one for each event and each survey
abbrev pub lines_at_start : List LockView → ℕ
lines_at_start locks = lines_of (rings_of locks)

-- those of an answer about a lock: one for the end of a hold, and one for each new event
abbrev pub end_count : Option HoldEnd → ℕ
end_count None = 0
end_count (Some e) = 1

abbrev pub count_about : ℕ → List LockView → List LockView → Option HoldEnd → ℕ
count_about lock old new ended =
    end_count ended + (events_at (slice_get new lock) - events_at (slice_get old lock))

-- those of a client that leaves all locks
abbrev pub count_of_left : List LockView → Left → ℕ
count_of_left new l = 1 + (events_at (slice_get new l.lock) - l.ended.survey.position)

abbrev pub count_of_all : List LockView → List Left → ℕ
count_of_all new left = sum_by (count_of_left new) left

-- the journal got this number of lines, and the locks have the same names
pub record IsCounted (old new : SegmentView) (lines : ℕ) : Type 0 where
  pub names : new.names ≡ old.names
  pub remaining : new.remaining ≡ old.remaining - lines
  pub short : new.short ≡ (old.short || has_short new.locks)

-- the first segment of locks of these names: its journal may have this number of lines, those with
-- which it begins among them
pub record IsStart (limit : ℕ) (names : Names) (locks : List LockView) (s : SegmentView) : Type 0
  where
    pub locks_are : s.locks ≡ locks
    pub names_are : s.names ≡ names
    pub remaining : s.remaining ≡ limit - lines_at_start locks
    pub short : s.short ≡ has_short locks
