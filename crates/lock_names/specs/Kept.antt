-- Locks by name as they are kept, and what an ask does to them (this project's own).
use Rattle.std.specs.Prelude.{◌≡◌, ℕ, ◌+◌, ◌-◌, ◌^◌, ◌==◌, ◌<◌, ◌≤◌, ◌⊎◌, Bool, true, false, not, ◌&&◌, if◌then◌else◌, List, [], ◌∷◌, ◌++◌, length, slice_get, slice_set, Option, Some, None, is_some, option_map}
use Rattle.held_locks.specs.declared.answers.Holder.{Holder}
use Rattle.held_locks.specs.declared.answers.Answer.{Answer}
use Rattle.held_locks.specs.declared.answers.Answer.TheVariants as answer
use Rattle.held_locks.specs.declared.answers.Answers.{Answers}
use Rattle.held_locks.specs.declared.answers.Refusal.TheVariants as refusal
use Rattle.held_locks.specs.Queues.{Lock}
use Rattle.held_locks.specs.Locks.{Ask, Acquire, Try, Release, Cancel, Corrupt, Stats}
use Rattle.held_locks.specs.Promises.{AreRight}
use Rattle.held_locks.specs.Kept.{LockView, lock_of, locks_of, IsDone, IsFull}
use Rattle.held_locks.specs.Asked.{events_at, IsAnswerTo}
use Rattle.lock_names.specs.declared.replies.Reply.{Reply}
use Rattle.lock_names.specs.declared.replies.Reply.TheVariants as reply
use Rattle.lock_names.specs.declared.replies.NameAnswers.{NameAnswers}
use Rattle.lock_names.specs.declared.replies.NameAsked.{NameAsked}
use Rattle.lock_names.specs.declared.table.Counts.{Counts}
use Rattle.lock_names.specs.declared.asks.Rings.{Rings}
use Rattle.lock_names.specs.Names.{Bound, Named, Of, Said, token_in, of_ring, told_holder, as_told, found, free, fresh, grants_at, step_named}
use Rattle.lock_names.specs.Promises.{IsRightBound, IsNamed}

-- the locks, by the numbers of their rings, and what else the machine has
pub record NamedView : Type 0 where
  pub locks : List LockView
  pub names : List (Option Bound)
  pub fixed : ℕ
  pub top : ℕ

-- the same, of the parts that are kept
abbrev pub seen : Rings → List (Option Bound) → NamedView
seen r names = record { locks = r.locks; names = names; fixed = r.fixed; top = r.top }

-- the same, as the machine sees it
abbrev pub named_of : NamedView → Named
named_of v = record {
  locks = locks_of v.locks;
  names = v.names;
  fixed = v.fixed;
  top = v.top;
}

-- how many clients wait, for whichever lock
abbrev pub waiting : List Lock → ℕ
waiting [] = 0
waiting (l ∷ ls) = length l.queue + waiting ls

-- after this number of grants no client is granted any more, except those that wait already, and no
-- fault is written
abbrev pub top_limit : ℕ
top_limit = 2 ^ 63

-- The rings are named right, there is one for each fixed lock, and the tokens of all clients that
-- wait will have 64 bits.
pub record IsKeptNamed (v : NamedView) : Type 0 where
  pub named : IsNamed (named_of v)
  pub places : v.fixed ≤ length v.locks
  pub tokens : v.top + waiting (locks_of v.locks) < 2 ^ 64

-- the ask is for a hold
abbrev pub for_hold : Ask → Bool
for_hold (Acquire label) = true
for_hold (Try label) = true
for_hold _ = false

-- the ask may make the ring pass, and not for a client that waits already
abbrev pub may_pass : Ask → Bool
may_pass (Acquire label) = true
may_pass (Try label) = true
may_pass (Corrupt machine value) = true
may_pass _ = false

-- the answer to an ask of a name that no ring has, if it is not for a hold
abbrev pub unused_answer : Ask → Option Answer
unused_answer (Release token) = Some (answer.Refused refusal.Holder)
unused_answer Cancel = Some (answer.Refused refusal.Waiter)
unused_answer (Corrupt machine value) = Some (answer.Refused refusal.Lock)
unused_answer Stats =
    Some (answer.Stats (record { machines = 0; waiters = 0; passes = 0; holder = None }))
unused_answer _ = None

-- ---- a ring that is asked

-- a binding by its numbers only
abbrev pub bound_by : Counts → Bound
bound_by k = record { name = []; before = k.before; floor = k.floor }

-- the ring's number of the hold, if this is its token for the name; else 0, which no grant has
abbrev pub own_number : Bound → ℕ → Option Holder → ℕ
own_number b token None = 0
own_number b token (Some h) = if token == token_in b h.token then h.token else 0

-- the ask, where a release has the ring's number of the hold for its token
abbrev pub with_number : Bound → Ask → Option Holder → Ask
with_number b (Release token) h = Release (own_number b token h)
with_number b ask h = ask

-- A lock whose ring is bound so may be asked this: each token of an answer has 64 bits then.
pub record IsReady (vs : List LockView) (top i : ℕ) (b : Bound) (ask : Ask) : Type 0 where
  pub right : AreRight (locks_of vs)
  pub lock : LockView
  pub there : slice_get vs i ≡ Some lock
  pub bound : IsRightBound top (lock_of lock) b
  pub tokens : top + waiting (locks_of vs) < 2 ^ 64
  pub limit : may_pass ask ≡ true → top < top_limit

-- the token of each grant in an answer has 64 bits
abbrev pub IsTellable : Bound → Answer → Type 0
IsTellable b (answer.Granted n) = token_in b n < 2 ^ 64
IsTellable b (answer.Stats s) =
    (h : Holder) → s.holder ≡ Some h → token_in b h.token < 2 ^ 64
IsTellable b _ = Unit {0}

-- the lock's answers, with the tokens of a name that is bound so
abbrev pub told_of : ℕ → Bound → Answers → NameAnswers
told_of i b r = record {
  ring = Some i;
  fresh = false;
  freed = false;
  own = option_map (λ (a : Answer). reply.Lock (as_told b a)) r.own;
  ended = r.ended;
  granted = option_map (told_holder b) r.granted;
}

-- the lock was asked, its answers got the tokens of the name, and its grants were counted
pub record IsTold (old new : List LockView) (low high c i : ℕ) (b : Bound) (ask : Ask)
    (r : NameAnswers) : Type 0 where
  pub raw : Answers
  pub answer : IsAnswerTo old new c i (of_ring b ask) raw
  pub told : r ≡ told_of i b raw
  pub top : high
      ≡ low + (grants_at (slice_get (locks_of new) i) - grants_at (slice_get (locks_of old) i))
  pub tokens : high + waiting (locks_of new) < 2 ^ 64

-- ---- a name that is asked

-- the ring that an ask reaches, and how it is bound then: that of the name, or, if the ask is for a
-- hold, the lowest free one
abbrev pub at_free : Named → List ℕ → Bool → Option ℕ → Option (ℕ × Bound)
at_free s x true (Some i) = Some (i, fresh s x i)
at_free s x _ _ = None

abbrev pub reached_from : Named → List ℕ → Ask → Option (ℕ × Bound) → Option (ℕ × Bound)
reached_from s x ask (Some p) = Some p
reached_from s x ask None = at_free s x (for_hold ask) (free s.names)

abbrev pub reached : Named → List ℕ → Ask → Option (ℕ × Bound)
reached s x ask = reached_from s x ask (found x s.names)

-- what is said to the client that asks, and to the other one that is granted the lock next
abbrev pub own_said : ℕ → List ℕ → Option Reply → List Said
own_said c x None = []
own_said c x (Some r) = record { client = c; name = x; reply = r } ∷ []

abbrev pub grant_said : List ℕ → Option Holder → List Said
grant_said x None = []
grant_said x (Some h) =
    record { client = h.client; name = x; reply = reply.Lock (answer.Granted h.token) } ∷ []

abbrev pub said_in : ℕ → List ℕ → NameAnswers → List Said
said_in c x r = own_said c x r.own ++ grant_said x r.granted

-- the ring that was reached was asked, and recorded the end of a hold; or none was
abbrev pub IsRecorded : List LockView → List LockView → ℕ → Ask → NameAnswers
    → Option (ℕ × Bound) → Type 0
IsRecorded old new c ask r None = (new ≡ old) × (r.ended ≡ None)
IsRecorded old new c ask r (Some p) =
    (raw : Answers) × IsDone old new c p.0 (of_ring p.1 ask) raw × (r.ended ≡ raw.ended)

-- the names after an ask, by what a journal has of it: the ring whose name is new, or that is freed
abbrev pub noted_at : Named → List ℕ → Option ℕ → Bool → Bool → List (Option Bound)
noted_at s x None new freed = s.names
noted_at s x (Some i) true freed = slice_set s.names i (Some (fresh s x i))
noted_at s x (Some i) false true = slice_set s.names i None
noted_at s x (Some i) false false = s.names

abbrev pub noted : Named → List ℕ → NameAnswers → List (Option Bound)
noted s x r = noted_at s x r.ring r.fresh r.freed

-- The step of the machine was made: its state, what it says, and the ring that was asked. The name
-- is new if a ring has it now, and none had it before; and freed the other way round. No other name
-- changes.
pub record IsTaken (old new : NamedView) (c : ℕ) (x : List ℕ) (ask : Ask) (r : NameAnswers)
    : Type 0 where
  pub named : named_of new ≡ (step_named (named_of old) (Of c x ask)).named
  pub said : said_in c x r ≡ (step_named (named_of old) (Of c x ask)).said
  pub recorded : IsRecorded old.locks new.locks c ask r (reached (named_of old) x ask)
  pub fresh : r.fresh ≡ (not (is_some (found x old.names)) && is_some (found x new.names))
  pub freed : r.freed ≡ (is_some (found x old.names) && not (is_some (found x new.names)))
  pub names : new.names ≡ noted (named_of old) x r

-- why there is no room: as many grants were counted as may be, or the ring's segment is full
abbrev pub HasNoRoom : NamedView → Ask → Option (ℕ × Bound) → Type 0
HasNoRoom old ask None = ⊥
HasNoRoom old ask (Some p) =
    (top_limit ≤ old.top) ⊎ IsFull old.locks p.0 (of_ring p.1 ask)

-- An ask that may make a ring pass, and no other, was refused for lack of room or of memory;
-- nothing has changed.
pub record IsWanting (old new : NamedView) (x : List ℕ) (ask : Ask) (r : NameAnswers) : Type 0
  where
    pub asks : may_pass ask ≡ true
    pub why : ((r.own ≡ Some (reply.Lock (answer.Refused refusal.Full)))
        × HasNoRoom old ask (reached (named_of old) x ask))
        ⊎ (r.own ≡ Some (reply.Lock (answer.Refused refusal.Memory)))
    pub none : (r.ended ≡ None) × (r.granted ≡ None) × (r.fresh ≡ false)
    pub stays : r.freed ≡ false
    pub same : new ≡ old

-- An ask is answered as the machine says, or refused for lack of room or of memory; with the ring
-- that it reached, if it reached one.
pub record IsAsked (old new : NamedView) (c : ℕ) (x : List ℕ) (ask : Ask) (r : NameAnswers)
    : Type 0 where
  pub ring : r.ring ≡ option_map (λ (p : ℕ × Bound). p.0) (reached (named_of old) x ask)
  pub answer : IsTaken old new c x ask r ⊎ IsWanting old new x ask r

-- how many events the segment of a ring has, if one is asked
abbrev pub events_of : List LockView → Option ℕ → ℕ
events_of vs None = 0
events_of vs (Some i) = events_at (slice_get vs i)

-- what comes of an ask counts the events of the ring that was asked
pub record HasEvents (old new : List LockView) (r : NameAsked) : Type 0 where
  pub before : r.before ≡ events_of old r.answers.ring
  pub after : r.after ≡ events_of new r.answers.ring
