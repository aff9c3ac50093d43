-- Locks by any name in a segment, with what its journal has had (this project's own).
use Rattle.std.specs.Prelude.{◌≡◌, ◌==◌, ℕ, ◌-◌, nat_le, nat_lt, Bool, true, false, not, ◌||◌, ◌&&◌, List, length, slice_get, Option, None, Some, is_some}
use Rattle.held_locks.specs.declared.answers.Answer.TheVariants as answer
use Rattle.held_locks.specs.declared.answers.Refusal.TheVariants as refusal
use Rattle.held_locks.specs.declared.answers.Left.{Left}
use Rattle.held_locks.specs.Kept.{LockView}
use Rattle.held_locks.specs.Locks.{Ask}
use Rattle.lock_names.specs.declared.replies.Reply.{Reply}
use Rattle.lock_names.specs.declared.replies.Reply.TheVariants as reply
use Rattle.lock_names.specs.declared.replies.NameAnswers.{NameAnswers}
use Rattle.lock_names.specs.Bindings.{free}
use Rattle.lock_names.specs.Kept.{NamedView, named_of, reached}
use Rattle.lock_journal.specs.Asking.{is_lack}
use Rattle.lock_journal.specs.Due.{is_short_at, has_short}
use Rattle.lock_journal.specs.Counting.{count_about}

-- the locks with their names; what the client that left last held; how many lines more the journal
-- may have until the segment is due; and whether a ring was short after some line
pub record NamingView : Type 0 where
  pub named : NamedView
  pub left : List Left
  pub remaining : ℕ
  pub short : Bool

-- ---- what is counted

-- the journal got this number of lines, remarks aside
pub record IsNameCounted (old new : NamingView) (lines : ℕ) : Type 0 where
  pub remaining : new.remaining ≡ old.remaining - lines
  pub short : new.short ≡ (old.short || has_short new.named.locks)

-- those of an answer about a name: of the ring that was asked, if one was
abbrev pub count_at : Option ℕ → NamedView → NamedView → NameAnswers → ℕ
count_at None old new r = 0
count_at (Some ring) old new r = count_about ring old.locks new.locks r.ended

-- a ring was asked, and is short
abbrev pub is_short_asked : List LockView → Option ℕ → Bool
is_short_asked vs None = false
is_short_asked vs (Some ring) = is_short_at (slice_get vs ring)

-- ---- a list without a pool

-- there is no ring beside those of the fixed locks, and there may be none
abbrev pub has_no_pool : ℕ → NamedView → Bool
has_no_pool most v = most == 0 && nat_le (length v.locks) v.fixed

-- of such a list the ask reaches no ring: there is no lock of this name
abbrev pub is_no_lock : ℕ → NamedView → List ℕ → Ask → Bool
is_no_lock most v name ask =
    not (is_some (reached (named_of v) name ask)) && has_no_pool most v

-- ---- what is lacking

-- no ring is free, and the pool may have this number of them and has fewer
abbrev pub is_wanting : ℕ → NamedView → Bool
is_wanting most v = not (is_some (free v.names)) && nat_lt (length v.locks - v.fixed) most

-- While the pool may get rings, an ask that finds none free is refused for lack of room: the segment
-- is to end, and could not be ended.
abbrev pub reply_told : Bool → Reply → Reply
reply_told true reply.Names = reply.Lock (answer.Refused refusal.Full)
reply_told wanting r = r

-- the asker is refused for lack of room or of memory
abbrev pub is_name_lack : Option Reply → Bool
is_name_lack (Some (reply.Lock a)) = is_lack (Some a)
is_name_lack _ = false
