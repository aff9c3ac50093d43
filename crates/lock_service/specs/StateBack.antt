-- The whole state of locks inside a replica, which comes back by its lines (this project's own).
use Rattle.std.specs.Prelude.{◌≡◌, ℕ, true, false, List, ◌++◌, Option}
use Rattle.disks.specs.Held.{Held}
use Rattle.line_service.specs.Answering.{Answers}
use Rattle.line_service.specs.Stands.{by_stand, stand}
use Rattle.line_replica.specs.declared.replica.Replica.{Replica}
use Rattle.line_replica.specs.Replies.{IsReplied}
use Rattle.line_replica.specs.State.{lines_of, own_lines, remarks_of}
use Rattle.held_locks.specs.Kept.{LockView}
use Rattle.lock_protocol.specs.Names.{Names}
use Rattle.lock_service.specs.declared.service.LockService.{LockService}
use Rattle.lock_service.specs.Serving.{IsServed}
use Rattle.lock_journal.specs.State.{holds_from, waits_from}
use Rattle.lock_service.specs.State.{state_lines}
use Rattle.lock_journal.specs.KeysBack.{IsFresh, IsSound, at_last}
use Rattle.lock_service.specs.WaitersBack.{HaveState, HaveTheHolds, HaveTheWaiters}

abbrev pub locks_in : Replica LockService → List LockView
locks_in r = r.numbered.inner.segment.locks

-- and their names
abbrev pub names_in : Replica LockService → Names
names_in r = r.numbered.inner.segment.names

-- the lines of a state after those of the holds, which are handed over at a start
abbrev pub lines_after_holds : Replica LockService → List (List ℕ)
lines_after_holds r = waits_from (names_in r) 0 (locks_in r) ++ own_lines r

abbrev pub HoldsAreFirst : Type 0
HoldsAreFirst =
    (r : Replica LockService)
    → lines_of state_lines r ≡ holds_from (names_in r) 0 (locks_in r) ++ lines_after_holds r

-- It has the waiting clients, the holds, the keys and the digest at the last place of another one,
-- and no file has changed. What is noted are the remarks of the other's own lines.
pub record HasTheState (source : Replica LockService) (was : Option Held) (said noted : List ℕ)
    (new : Replica LockService) (is : Option Held) : Type 0 where
  pub inside : List ℕ
  pub locks : HaveTheWaiters (names_in source) (locks_in source) said inside (locks_in new)
  pub notes : noted ≡ inside ++ remarks_of (own_lines source)
  pub keys : new.numbered.keys ≡ source.numbered.keys
  pub running : new.running ≡ at_last source.running
  pub files : is ≡ was

-- A law: on strict terms a replica of locks with the names and holds of another one's locks, for
-- which nobody waits, with no key and before the first place, that is given these lines has the
-- other's state.
abbrev pub StateComesBack : Type 0
StateComesBack =
    (source old new : Replica LockService) (was is : Option Held) (said noted : List ℕ)
    → IsSound source → HaveState (names_in source) (locks_in source) → IsFresh old
    → old.numbered.inner.terms.strict ≡ true → names_in old ≡ names_in source
    → HaveTheHolds (locks_in source) (locks_in old)
    → Answers (by_stand (IsReplied IsServed)) (stand old was) (lines_after_holds source) said
    noted (stand new is)
    → new.lost ≡ false → HasTheState source was said noted new is
