-- What a client asks of one lock, and how that is answered (this project's own).
use Rattle.std.specs.Prelude.{ℕ, List, length, Option, None, Some}
use Rattle.held_locks.specs.Locks.{Ask, Acquire, Try, Release, Cancel, Corrupt, Stats}
use Rattle.held_locks.specs.Kept.{LockView, IsDone, IsAnswer}
use Rattle.held_locks.specs.declared.answers.Answers.{Answers}
use Rattle.held_locks.specs.declared.asks.OneAsk.{OneAsk}
use Rattle.held_locks.specs.declared.asks.OneAsk.TheVariants as one

-- an ask of one lock, as the code has it
abbrev pub asked : OneAsk → Ask
asked (one.Acquire label) = Acquire label
asked (one.Try label) = Try label
asked (one.Release token) = Release token
asked one.Cancel = Cancel
asked (one.Corrupt machine value) = Corrupt machine value
asked one.Stats = Stats

-- how the lock answers: by its step; an ask that may make events can be refused for lack of room or
-- memory
abbrev pub IsAnswerTo : List LockView → List LockView → ℕ → ℕ → Ask → Answers → Type 0
IsAnswerTo old new c i (Acquire label) r = IsAnswer old new c i (Acquire label) r
IsAnswerTo old new c i (Try label) r = IsAnswer old new c i (Try label) r
IsAnswerTo old new c i (Corrupt machine value) r = IsAnswer old new c i (Corrupt machine value) r
IsAnswerTo old new c i ask r = IsDone old new c i ask r

-- how many events the segment of a lock's ring has
abbrev pub events_at : Option LockView → ℕ
events_at None = 0
events_at (Some v) = length v.ring.ring.book.history
