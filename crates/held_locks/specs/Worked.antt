-- A dialogue worked by hand: one lock over three machines with three values (this project's own).
use Rattle.std.specs.Prelude.{◌≡◌, ℕ, List, [], ◌∷◌, None}
use Rattle.ring_model.specs.LockSeats.{grant_seat, release_seat, leave_seat, fault_seat, repair_seat}
use Rattle.ring_model.specs.Ring.{ring_with}
use Rattle.ring_model.specs.declared.events.Op.TheVariants.{Pass, Corrupt}
use Rattle.ring_model.specs.declared.events.Reply.TheVariants.{Granted, Corrupted}
use Rattle.held_locks.specs.declared.answers.Answer.TheVariants as answer
use Rattle.held_locks.specs.declared.answers.Refusal.TheVariants as refusal
use Rattle.held_locks.specs.Queues.{Lock}
use Rattle.held_locks.specs.Locks as locks
use Rattle.held_locks.specs.Locks.{Mark, Input, Asked, Restart}
use Rattle.held_locks.specs.Promises.{answers_after, marks_of}

abbrev pub worked_lock : Lock
worked_lock = record {
  ring = record { ring = ring_with 3 (0 ∷ 0 ∷ 0 ∷ []); content = 0; grants = 0 };
  queue = [];
  holder = None;
}

-- Client 1 acquires, 2 waits; a fault comes and is repaired; 1 releases, so 2 is granted. A restart
-- makes the hold client 0's, for which 3 waits until 0 leaves.
abbrev pub worked_inputs : List Input
worked_inputs =
    Asked 1 0 (locks.Acquire 77)
    ∷ Asked 2 0 (locks.Acquire 78)
    ∷ Asked 9 0 (locks.Corrupt 2 2)
    ∷ Asked 1 0 (locks.Release 1)
    ∷ Restart
    ∷ Asked 3 0 (locks.Acquire 79)
    ∷ Asked 2 0 (locks.Release 3)
    ∷ Asked 0 0 locks.Leave
    ∷ []

-- its answers, and what the history of the lock gets
abbrev pub WorkedAnswers : Type 0
WorkedAnswers =
    answers_after (worked_lock ∷ []) worked_inputs
    ≡ (1, answer.Granted 1)
    ∷ (2, answer.Waiting 0)
    ∷ (9, answer.Corrupted 0)
    ∷ (1, answer.Released)
    ∷ (2, answer.Granted 3)
    ∷ (3, answer.Waiting 0)
    ∷ (2, answer.Refused refusal.Holder)
    ∷ (3, answer.Granted 4)
    ∷ []

abbrev pub worked_pass : ℕ → ℕ → ℕ → ℕ → ℕ → Mark
worked_pass seat machine order number amount = locks.Call (record {
  seat = seat;
  op = Pass machine order;
  reply = Granted number amount;
})

abbrev pub WorkedMarks : Type 0
WorkedMarks =
    marks_of 0 (worked_lock ∷ []) worked_inputs
    ≡ worked_pass grant_seat 0 77 1 77
    ∷ locks.Call (record { seat = fault_seat; op = Corrupt 2 2; reply = Corrupted 0 })
    ∷ worked_pass repair_seat 1 0 2 77
    ∷ locks.Survey release_seat
    ∷ worked_pass grant_seat 2 78 3 155
    ∷ locks.Survey leave_seat
    ∷ worked_pass grant_seat 0 79 4 234
    ∷ []
