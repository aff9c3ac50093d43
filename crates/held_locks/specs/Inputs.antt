-- What is asked of locks, and what an input does (this project's own).
use Rattle.std.specs.Prelude.{ℕ, List, [], ◌∷◌}
use Rattle.ring_model.specs.declared.events.Event.{Event}
use Rattle.held_locks.specs.declared.answers.Answer.{Answer}
use Rattle.held_locks.specs.Queues.{Lock}

-- what a client asks of a lock
pub data Ask : Type 0 where
  Acquire : ℕ → Ask
  Try : ℕ → Ask
  Release : ℕ → Ask
  Cancel : Ask
  Leave : Ask
  Corrupt : ℕ → ℕ → Ask
  Stats : Ask

-- what the history of a lock gets: a call of its ring, or a survey by a seat
pub data Mark : Type 0 where
  Call : Event → Mark
  Survey : ℕ → Mark

-- what an input does: the lock after it, the marks in its history, and the answers to clients
pub record Turn : Type 0 where
  pub lock : Lock
  pub marks : List Mark
  pub answers : List (ℕ × Answer)

-- nothing but an answer
abbrev pub told : Lock → ℕ → Answer → Turn
told l c a = record { lock = l; marks = []; answers = (c, a) ∷ [] }

-- an input: a client asks something of a lock; or a restart
pub data Input : Type 0 where
  Asked : ℕ → ℕ → Ask → Input
  Restart : Input

-- all locks after an input, the marks of the one that it names, and the answers about it
pub record Step : Type 0 where
  pub locks : List Lock
  pub marks : List Mark
  pub answers : List (ℕ × Answer)
