-- The machine of locks as one function (this project's own). A lock is a ring, settled after each
-- input; the first privileged machine passes for the client that is granted it.
use Rattle.std.specs.Prelude.{ℕ, nat_le, if◌then◌else◌, List, [], ◌∷◌, ◌++◌, map, length, slice_get, slice_index, slice_set, Option, Some, None, is_some, option_map}
use Rattle.ring_model.specs.LockSeats.{release_seat, leave_seat}
use Rattle.ring_model.specs.History.{after}
use Rattle.ring_model.specs.Resources.{till}
use Rattle.held_locks.specs.declared.answers.Waiter.{Waiter}
use Rattle.held_locks.specs.declared.answers.Holder.{Holder}
use Rattle.held_locks.specs.declared.answers.Answer.{Answer}
use Rattle.held_locks.specs.declared.answers.Answer.TheVariants as answer
use Rattle.held_locks.specs.declared.answers.Refusal.{Refusal}
use Rattle.held_locks.specs.declared.answers.Refusal.TheVariants as refusal
use Rattle.held_locks.specs.Queues.{Lock, stands, without, is_held_by, is_held_with, waits_for, client_of, comes_to}
pub use Rattle.held_locks.specs.Inputs.{Ask, Acquire, Try, Release, Cancel, Leave, Corrupt, Stats, Mark, Call, Survey, Turn, told, Input, Asked, Restart, Step}
pub use Rattle.held_locks.specs.Grants.{called, first_pass, granted, advanced, ended, repairs, fault}

-- a client acquires a lock that it may wait for
abbrev pub joined : Lock → Waiter → Option Holder → Turn
joined l w None = granted l.ring l.queue w
joined l w (Some h) = record {
  lock = record l { queue = l.queue ++ w ∷ [] };
  marks = [];
  answers = (w.client, answer.Waiting (length l.queue)) ∷ [];
}

-- or it is refused
abbrev pub acquired : Lock → Waiter → Option Refusal → Turn
acquired l w (Some why) = told l w.client (answer.Refused why)
acquired l w None = joined l w l.holder

-- why it may not
abbrev pub acquire_refusal : List Lock → Lock → ℕ → Option Refusal
acquire_refusal ls l c =
    if is_held_by c l.holder then Some refusal.Holds
    else if is_some (waits_for ls c) then Some refusal.Waits
    else if comes_to (length ls) ls c (client_of l.holder) then Some refusal.Circle
    else None

-- a client tries to acquire it, and waits in no case
abbrev pub tried_of : Lock → Waiter → Option Holder → Turn
tried_of l w None = granted l.ring l.queue w
tried_of l w (Some h) = told l w.client answer.Busy

-- or it is refused
abbrev pub tried : Lock → Waiter → Option Refusal → Turn
tried l w (Some why) = told l w.client (answer.Refused why)
tried l w None = tried_of l w l.holder

-- why it may not
abbrev pub try_refusal : Lock → ℕ → Option Refusal
try_refusal l c =
    if is_held_by c l.holder then Some refusal.Holds
    else if stands c l.queue then Some refusal.Waits
    else None

-- a client that does not hold it goes out of its queue
abbrev pub dropped : Lock → ℕ → List (ℕ × Answer) → Turn
dropped l c answers = record {
  lock = record l { queue = without c l.queue };
  marks = [];
  answers = answers;
}

-- a fault of its ring
abbrev pub faulted : Lock → ℕ → ℕ → ℕ → Turn
faulted l c i v = record {
  lock = record l { ring = after till l.ring (fault l.ring i v) };
  marks = map Call (fault l.ring i v);
  answers = (c, answer.Corrupted (slice_index l.ring.ring.values i)) ∷ [];
}

-- the answer to each ask
abbrev pub turn : List Lock → Lock → ℕ → Ask → Turn
turn ls l c (Acquire label) =
    acquired l (record { client = c; label = label }) (acquire_refusal ls l c)
turn ls l c (Try label) = tried l (record { client = c; label = label }) (try_refusal l c)
turn ls l c (Release token) =
    if is_held_with c token l.holder
    then ended l.ring l.queue release_seat ((c, answer.Released) ∷ [])
    else told l c (answer.Refused refusal.Holder)
turn ls l c Cancel =
    if stands c l.queue then dropped l c ((c, answer.Cancelled) ∷ [])
    else told l c (answer.Refused refusal.Waiter)
turn ls l c Leave =
    if is_held_by c l.holder then ended l.ring (without c l.queue) leave_seat [] else dropped l c []
turn ls l c (Corrupt i v) =
    if nat_le (length l.ring.ring.values) i then told l c (answer.Refused refusal.Machine)
    else if nat_le l.ring.ring.k v then told l c (answer.Refused refusal.Value)
    else faulted l c i v
turn ls l c Stats = told l c (answer.Stats (record {
  machines = length l.ring.ring.values;
  waiters = length l.queue;
  passes = l.ring.grants;
  holder = l.holder;
}))

-- an ask of a lock that there is, or is not
abbrev pub step_at : List Lock → ℕ → ℕ → Ask → Option Lock → Step
step_at ls c i ask None = record {
  locks = ls;
  marks = [];
  answers = (c, answer.Refused refusal.Lock) ∷ [];
}
step_at ls c i ask (Some l) = record {
  locks = slice_set ls i (turn ls l c ask).lock;
  marks = (turn ls l c ask).marks;
  answers = (turn ls l c ask).answers;
}

-- A restart forgets who waits; a hold that is open is client 0's.
abbrev pub restarted : Lock → Lock
restarted l = record {
  ring = l.ring;
  queue = [];
  holder = option_map (λ (h : Holder). record { client = 0; token = h.token }) l.holder;
}

-- the step of an input
abbrev pub step : List Lock → Input → Step
step ls (Asked c i ask) = step_at ls c i ask (slice_get ls i)
step ls Restart = record { locks = map restarted ls; marks = []; answers = [] }
