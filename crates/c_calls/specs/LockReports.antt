-- The form of an answer about locks for C: a code, and the values written to the struct that C lends
-- (this project's own).
use Rattle.std.specs.Prelude.{◌≡◌, ℕ, Option, Some, None}
use Rattle.held_locks.specs.declared.answers.Answer.{Answer}
use Rattle.held_locks.specs.declared.answers.Answer.TheVariants as answer
use Rattle.held_locks.specs.declared.answers.Answers.{Answers}
use Rattle.held_locks.specs.declared.answers.Refusal.{Refusal}
use Rattle.held_locks.specs.declared.answers.Refusal.TheVariants as refusal
use Rattle.c_calls.specs.declared.lock_answers.Grant.{Grant}
use Rattle.c_calls.specs.declared.lock_answers.Hold.{Hold}
use Rattle.c_calls.specs.Codes.{no_memory, history_full, no_more, grants_left}

-- the code of an input about locks that is refused
abbrev pub lock_code : Refusal → ℕ
lock_code refusal.Lock = 96
lock_code refusal.Holds = 97
lock_code refusal.Waits = 98
lock_code refusal.Circle = 99
lock_code refusal.Holder = 100
lock_code refusal.Waiter = 101
lock_code refusal.Machine = 17
lock_code refusal.Value = 18
lock_code refusal.Full = history_full
lock_code refusal.Memory = no_memory

-- the code of the answer to the client that asks
abbrev pub own_code : Option Answer → ℕ
own_code (Some (answer.Waiting ahead)) = 1
own_code (Some answer.Busy) = 2
own_code (Some (answer.Refused why)) = lock_code why
own_code _ = 0

-- what is written for that client: the token of a grant, or how many wait before it
abbrev pub own_hold : Option Answer → Hold → Hold
own_hold (Some (answer.Granted token)) old = record { token = token; ahead = 0 }
own_hold (Some (answer.Waiting ahead)) old = record { token = 0; ahead = ahead }
own_hold _ old = old

-- the same code where grants may be left
abbrev pub asked_code : Option Answers → ℕ
asked_code (Some r) = own_code r.own
asked_code None = grants_left

-- what is written where grants may be left
abbrev pub asked_hold : Option Answers → Hold → Hold
asked_hold (Some r) old = own_hold r.own old
asked_hold None old = old

-- of a grant that is handed out, or of none, and then nothing is written
abbrev pub IsGrantReport : Option Grant → ℕ → Grant → Grant → Type 0
IsGrantReport (Some g) code old new = (code ≡ 0) × (new ≡ g)
IsGrantReport None code old new = (code ≡ no_more) × (new ≡ old)
