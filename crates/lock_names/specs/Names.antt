-- Locks by any name: the machine (this project's own). A ring of the pool has a name just while it
-- is held; the ring of a fixed lock has one for ever.
pub use Rattle.name_bindings.specs.Bindings.{Bound, further, found, free, token_in}
use Rattle.std.specs.Prelude.{ℕ, ◌+◌, ◌-◌, nat_le, nat_lt, ◌||◌, Bool, if◌then◌else◌, List, [], ◌∷◌, ◌++◌, map, slice_get, slice_set, Option, Some, None, is_some, option_map}
use Rattle.ring_model.specs.History.{State}
use Rattle.held_locks.specs.declared.answers.Holder.{Holder}
use Rattle.held_locks.specs.declared.answers.Answer.{Answer}
use Rattle.held_locks.specs.Queues.{Lock, holder_of}
use Rattle.held_locks.specs.Locks.{Ask, Acquire, Try, Release, Cancel, Leave, Corrupt, Stats, Asked, Restart, Step, step}
use Rattle.lock_names.specs.declared.replies.Reply.{Reply}
use Rattle.lock_names.specs.declared.replies.Reply.TheVariants as reply
use Rattle.held_locks.specs.declared.answers.Answer.TheVariants as answer
use Rattle.held_locks.specs.declared.answers.Refusal.TheVariants as refusal

-- the locks of all rings; the name of each ring that has one; how many rings belong to fixed locks,
-- which come first; and how many grants there were of all rings for ever
pub record Named : Type 0 where
  pub locks : List Lock
  pub names : List (Option Bound)
  pub fixed : ℕ
  pub top : ℕ

-- an input: a client asks something of a name; a restart; or a ring more in the pool, which is free
pub data NamedInput : Type 0 where
  Of : ℕ → List ℕ → Ask → NamedInput
  Again : NamedInput
  More : State ℕ → NamedInput

-- what is said to a client about a name
pub record Said : Type 0 where
  pub client : ℕ
  pub name : List ℕ
  pub reply : Reply

-- what an input does: the state after it, and what is said
pub record NamedStep : Type 0 where
  pub named : Named
  pub said : List Said

-- the ring's grant that has this token; 0 is none
abbrev pub number_in : Bound → ℕ → ℕ
number_in b token = if nat_le token b.floor then 0 else ((token - b.floor) + b.before)

-- the ask, as the ring understands it
abbrev pub of_ring : Bound → Ask → Ask
of_ring b (Release token) = Release (number_in b token)
of_ring b ask = ask

-- the holder, and the ring's answer, with the tokens of the name
abbrev pub told_holder : Bound → Holder → Holder
told_holder b h = record { client = h.client; token = token_in b h.token }

abbrev pub as_told : Bound → Answer → Answer
as_told b (answer.Granted n) = answer.Granted (token_in b n)
as_told b (answer.Stats s) = answer.Stats (record {
  machines = s.machines;
  waiters = s.waiters;
  passes = s.passes - b.before;
  holder = option_map (told_holder b) s.holder;
})
as_told b a = a

abbrev pub said_of : Bound → ℕ × Answer → Said
said_of b a = record { client = a.0; name = b.name; reply = reply.Lock (as_told b a.1) }

-- ---- rings

-- the grants of a ring, and of all rings
abbrev pub grants_at : Option Lock → ℕ
grants_at None = 0
grants_at (Some l) = l.ring.grants

abbrev pub total : List Lock → ℕ
total [] = 0
total (l ∷ ls) = l.ring.grants + total ls

-- how a name is bound to a ring that is free
abbrev pub fresh : Named → List ℕ → ℕ → Bound
fresh s x i = record { name = x; before = grants_at (slice_get s.locks i); floor = s.top }

-- the name of a ring after a step: it stays, or is forgotten
abbrev pub kept : Bool → Bound → Option Bound
kept stays b = if stays then Some b else None

-- it stays if the ring is held, or is that of a fixed lock
abbrev pub stays : ℕ → ℕ → List Lock → Bool
stays fixed i ls = nat_lt i fixed || is_some (holder_of (slice_get ls i))

-- ---- steps

-- a ring that is bound so is asked
abbrev pub at_ring : Named → ℕ → ℕ → Bound → Ask → NamedStep
at_ring s c i b ask =
    let t : Step = step s.locks (Asked c i (of_ring b ask)) in record {
      named = record {
        locks = t.locks;
        names = slice_set s.names i (kept (stays s.fixed i t.locks) b);
        fixed = s.fixed;
        top = s.top + (total t.locks - total s.locks);
      };
      said = map (said_of b) t.answers;
    }

-- nothing but a reply
abbrev pub replied : Named → ℕ → List ℕ → Reply → NamedStep
replied s c x r = record { named = s; said = record { client = c; name = x; reply = r } ∷ [] }

-- an ask for a hold of a name that no ring has binds it to the lowest free ring, if there is one
abbrev pub given : Named → ℕ → List ℕ → Ask → Option ℕ → NamedStep
given s c x ask None = replied s c x reply.Names
given s c x ask (Some i) = at_ring s c i (fresh s x i) ask

-- an ask of a name that no ring has
abbrev pub at_none : Named → ℕ → List ℕ → Ask → NamedStep
at_none s c x (Acquire label) = given s c x (Acquire label) (free s.names)
at_none s c x (Try label) = given s c x (Try label) (free s.names)
at_none s c x (Release token) = replied s c x (reply.Lock (answer.Refused refusal.Holder))
at_none s c x Cancel = replied s c x (reply.Lock (answer.Refused refusal.Waiter))
at_none s c x Leave = record { named = s; said = [] }
at_none s c x (Corrupt i v) = replied s c x (reply.Lock (answer.Refused refusal.Lock))
at_none s c x Stats = replied s c x (reply.Lock
    (answer.Stats (record { machines = 0; waiters = 0; passes = 0; holder = None })))

-- an ask of a name
abbrev pub at_name : Named → ℕ → List ℕ → Ask → Option (ℕ × Bound) → NamedStep
at_name s c x ask None = at_none s c x ask
at_name s c x ask (Some p) = at_ring s c p.0 p.1 ask

-- A restart keeps what is held, and so the names.
abbrev pub restarted_named : Named → Named
restarted_named s = record {
  locks = (step s.locks Restart).locks;
  names = s.names;
  fixed = s.fixed;
  top = s.top;
}

-- a lock of this ring, which nobody holds
abbrev pub free_lock : State ℕ → Lock
free_lock a = record { ring = a; queue = []; holder = None }

-- a ring more, which has no name
abbrev pub grown : Named → State ℕ → Named
grown s a = record {
  locks = s.locks ++ free_lock a ∷ [];
  names = s.names ++ None ∷ [];
  fixed = s.fixed;
  top = s.top + a.grants;
}

-- the step of an input
abbrev pub step_named : Named → NamedInput → NamedStep
step_named s (Of c x ask) = at_name s c x ask (found x s.names)
step_named s Again = record { named = restarted_named s; said = [] }
step_named s (More a) = record { named = grown s a; said = [] }

-- ---- lists of inputs

-- the state after them, and all that is said, in order
abbrev pub named_after : Named → List NamedInput → Named
named_after s [] = s
named_after s (i ∷ is) = named_after (step_named s i).named is

abbrev pub said_after : Named → List NamedInput → List Said
said_after s [] = []
said_after s (i ∷ is) = (step_named s i).said ++ said_after (step_named s i).named is

-- a client leaves all names that there are, one after the other, in the order of their rings
abbrev pub leave_each : ℕ → List (Option Bound) → List NamedInput
leave_each c [] = []
leave_each c (None ∷ os) = leave_each c os
leave_each c (Some b ∷ os) = Of c b.name Leave ∷ leave_each c os
