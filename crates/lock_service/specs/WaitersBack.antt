-- Clients that wait for locks and come back by the lines of a state (this project's own).
use Rattle.std.specs.Prelude.{◌≡◌, ℕ, ◌+◌, ◌<◌, ◌≤◌, ◌^◌, true, List, [], ◌∷◌, ◌++◌, length, map, Option}
use Rattle.std.specs.List.{AllByRecursion}
use Rattle.disks.specs.Held.{Held}
use Rattle.line_service.specs.Answering.{Answers}
use Rattle.line_service.specs.Stands.{by_stand, stand}
use Rattle.held_locks.specs.declared.answers.Answer.TheVariants as answer
use Rattle.held_locks.specs.declared.answers.Holder.{Holder}
use Rattle.held_locks.specs.declared.answers.Waiter.{Waiter}
use Rattle.held_locks.specs.Promises.{AreRight}
use Rattle.held_locks.specs.Kept.{LockView, locks_of, lock_limit}
use Rattle.lock_protocol.specs.Names.{Names, AreNames, name_of}
use Rattle.lock_protocol.specs.Answers.{answer_line}
use Rattle.lock_service.specs.declared.service.LockService.{LockService}
use Rattle.lock_journal.specs.declared.terms.Terms.{Terms}
use Rattle.lock_journal.specs.Counting.{SegmentView}
use Rattle.lock_journal.specs.Answering.{IsLineAnswered}
use Rattle.lock_service.specs.Serving.{IsServed}
use Rattle.lock_journal.specs.State.{waits_from}

-- the holder of each lock, and the clients that wait for it, in order
abbrev pub holders_of : List LockView → List (Option Holder)
holders_of vs = map (λ (v : LockView). v.holder) vs

abbrev pub waiters_of : List LockView → List (List Waiter)
waiters_of vs = map (λ (v : LockView). v.queue) vs

-- a client and a label have 64 bits
abbrev pub IsOfBits : Waiter → Type 0
IsOfBits w = (w.client < 2 ^ 64) × (w.label < 2 ^ 64)

-- locks whose state is answered are right, and not too many; each has a name of its own
pub record HaveState (names : Names) (vs : List LockView) : Type 0 where
  pub right : AreRight (locks_of vs)
  pub named : AreNames names
  pub each : length names ≡ length vs
  pub few : length vs ≤ lock_limit
  pub bits : AllByRecursion (λ (v : LockView). AllByRecursion IsOfBits v.queue) vs

-- a law: they stay so, whatever is asked
abbrev pub HavingStateStays : Type 0
HavingStateStays =
    (terms : Terms) (old new : SegmentView) (line said noted : List ℕ)
    → HaveState old.names old.locks → IsLineAnswered terms old line said noted new
    → HaveState new.names new.locks

-- locks with the holds of these, for which nobody waits, as after a restart whose holds were handed
-- back
pub record HaveTheHolds (vs now : List LockView) : Type 0 where
  pub right : AreRight (locks_of now)
  pub holders : holders_of now ≡ holders_of vs
  pub nobody : waiters_of now ≡ map (λ (v : LockView). []) vs

-- the answers to clients that wait again, of one lock and of all: each waits after those before it
abbrev pub waiting_lines : List ℕ → ℕ → List Waiter → List ℕ
waiting_lines name before [] = []
waiting_lines name before (w ∷ line) =
    answer_line w.client name (answer.Waiting before) ++ waiting_lines name (before + 1) line

abbrev pub waiting_from : Names → ℕ → List LockView → List ℕ
waiting_from names lock [] = []
waiting_from names lock (v ∷ vs) =
    waiting_lines (name_of names lock) 0 v.queue ++ waiting_from names (lock + 1) vs

-- Each got the answer that it waits. The same clients wait for each lock, with the same orders and
-- in the same order, and the same clients hold them, with the same tokens.
pub record HaveTheWaiters (names : Names) (vs : List LockView) (said noted : List ℕ)
    (now : List LockView) : Type 0 where
  pub says : said ≡ waiting_from names 0 vs
  pub notes : noted ≡ []
  pub waiters : waiters_of now ≡ waiters_of vs
  pub holders : holders_of now ≡ holders_of vs

-- A law: on strict terms locks with the names and the holds of others, for which nobody waits, that
-- are given the lines of those who wait for the others have these clients waiting.
abbrev pub WaitersComeBack : Type 0
WaitersComeBack =
    (vs : List LockView) (old new : LockService) (was is : Option Held) (said noted : List ℕ)
    → old.terms.strict ≡ true → HaveState old.segment.names vs → HaveTheHolds vs old.segment.locks
    → Answers (by_stand IsServed) (stand old was) (waits_from old.segment.names 0 vs) said noted
    (stand new is)
    → HaveTheWaiters old.segment.names vs said noted new.segment.locks × (is ≡ was)
