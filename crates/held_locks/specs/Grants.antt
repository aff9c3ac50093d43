-- What is done to the ring of a lock: grants, the ends of holds, faults with their repair (this
-- project's own).
use Rattle.std.specs.Prelude.{ℕ, zero, suc, ◌+◌, ◌-◌, ◌==◌, if◌then◌else◌, Option, List, [], ◌∷◌, ◌++◌, length, Some, None}
use Rattle.ring_model.specs.LockSeats.{grant_seat, carried_seat, fault_seat, repair_seat}
use Rattle.ring_model.specs.Ring.{first_privileged, is_settled}
use Rattle.ring_model.specs.History.{State, next, reply}
use Rattle.ring_model.specs.Resources.{till}
use Rattle.ring_model.specs.declared.events.Op.{Op}
use Rattle.ring_model.specs.declared.events.Op.TheVariants as op
use Rattle.ring_model.specs.declared.events.Event.{Event}
use Rattle.held_locks.specs.declared.answers.Waiter.{Waiter}
use Rattle.held_locks.specs.declared.answers.Answer.{Answer}
use Rattle.held_locks.specs.declared.answers.Answer.TheVariants as answer
use Rattle.held_locks.specs.Inputs.{Call, Survey, Turn}

-- a call of the ring by a seat, with its reply; a pass of the first privileged machine
abbrev pub called : State ℕ → ℕ → Op → Event
called a seat o = record { seat = seat; op = o; reply = reply till a o }

abbrev pub first_pass : State ℕ → ℕ → Op
first_pass a order = op.Pass (first_privileged a.ring.values) order

-- a grant: a pass with the client's label as its order, whose number is the token
abbrev pub granted : State ℕ → List Waiter → Waiter → Turn
granted a queue w = record {
  lock = record {
    ring = next till a (first_pass a w.label);
    queue = queue;
    holder = Some (record { client = w.client; token = a.grants + 1 });
  };
  marks = Call (called a grant_seat (first_pass a w.label)) ∷ [];
  answers = (w.client, answer.Granted (a.grants + 1)) ∷ [];
}

-- nobody holds any more: the head of the queue is granted
abbrev pub advanced : State ℕ → List Waiter → Turn
advanced a [] = record {
  lock = record { ring = a; queue = []; holder = None };
  marks = [];
  answers = [];
}
advanced a (w ∷ queue) = granted a queue w

-- a hold ends, with a survey by this seat
abbrev pub ended : State ℕ → List Waiter → ℕ → List (ℕ × Answer) → Turn
ended a queue seat answers = record {
  lock = (advanced a queue).lock;
  marks = Survey seat ∷ (advanced a queue).marks;
  answers = answers ++ (advanced a queue).answers;
}

-- The first event of a segment that begins while a hold is open carries the hold: a pass of a
-- machine that is not privileged, which changes nothing. Its order is the hold's token.
abbrev pub other_machine : State ℕ → ℕ
other_machine a = if first_privileged a.ring.values == 0 then 1 else 0

abbrev pub carried : State ℕ → Option ℕ → List Event
carried a None = []
carried a (Some token) = called a carried_seat (op.Pass (other_machine a) token) ∷ []

-- the most passes that settle a ring of n machines, where the first privileged one passes each time
abbrev pub most_passes : ℕ → ℕ
most_passes n = n - 1

-- passes of a repair until the ring is settled, at most this many
abbrev pub repairs : ℕ → State ℕ → List Event
repairs zero a = []
repairs (suc most) a =
    if is_settled a.ring.values then []
    else
    (called a repair_seat (first_pass a 0) ∷ repairs most (next till a (first_pass a 0)))

-- a fault, and its repair
abbrev pub fault : State ℕ → ℕ → ℕ → List Event
fault a i v =
    called a fault_seat (op.Corrupt i v)
    ∷ repairs (most_passes (length a.ring.values)) (next till a (op.Corrupt i v))
