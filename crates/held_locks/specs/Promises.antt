-- What the machine of locks promises, over every list of inputs (this project's own).
use Rattle.std.specs.Prelude.{◌≡◌, ◌≢◌, ℕ, zero, suc, ◌+◌, ◌<◌, ◌≤◌, Bool, true, false, ◌&&◌, ◌||◌, ◌==◌, if◌then◌else◌, List, [], ◌∷◌, ◌++◌, map, length, slice_get, filter_map, Option, Some, None, is_some, option_map, ◌⊎◌}
use Rattle.ring_model.specs.LockSeats.{grant_seat, release_seat, leave_seat, carried_seat}
use Rattle.ring_model.specs.Ring.{IsRing, is_settled}
use Rattle.held_locks.specs.Grants.{most_passes, carried}
use Rattle.ring_model.specs.History.{State, after, IsLegal}
use Rattle.ring_model.specs.Resources.{till}
use Rattle.ring_model.specs.declared.events.Op.{Op}
use Rattle.ring_model.specs.declared.events.Op.TheVariants as op
use Rattle.ring_model.specs.declared.events.Reply.{Reply}
use Rattle.ring_model.specs.declared.events.Reply.TheVariants as reply
use Rattle.ring_model.specs.declared.events.Event.{Event}
use Rattle.held_locks.specs.declared.answers.Waiter.{Waiter}
use Rattle.held_locks.specs.declared.answers.Holder.{Holder}
use Rattle.held_locks.specs.declared.answers.Answer.{Answer}
use Rattle.held_locks.specs.declared.answers.Answer.TheVariants as answer
use Rattle.held_locks.specs.declared.answers.Refusal.TheVariants as refusal
use Rattle.held_locks.specs.Queues.{Lock, stands, is_held_by, is_held_with, waits_for, client_of, holder_of, comes_to}
use Rattle.held_locks.specs.Locks.{Ask, Release, Cancel, Leave, Corrupt, Mark, Call, Survey, Input, Asked, Restart, step}

-- ---- what is true at every moment

-- no client is in the queue twice
abbrev pub AreApart : List Waiter → Type 0
AreApart [] = Unit {0}
AreApart (w ∷ queue) = (stands w.client queue ≡ false) × AreApart queue

-- the ring of the lock is settled, and no client waits for a lock that is not held
pub record IsRightLock (l : Lock) : Type 0 where
  pub ring : IsRing l.ring.ring
  pub settled : is_settled l.ring.ring.values ≡ true
  pub held : l.holder ≡ None → l.queue ≡ []
  pub apart : AreApart l.queue

-- From a client that waits to the holder of what it waits for, this many times: where one comes to.
abbrev pub comes : ℕ → List Lock → Option ℕ → Option ℕ
comes steps ls None = None
comes zero ls (Some c) = Some c
comes (suc steps) ls (Some c) = comes steps ls (holder_of (waits_for ls c))

-- one comes to an end: to a client that waits for nothing
abbrev pub ComesToAnEnd : List Lock → Option ℕ → Type 0
ComesToAnEnd ls at = (steps : ℕ) × (comes steps ls at ≡ None)

-- each lock is right, a client waits for one lock at most, and no client waits for itself, however far
-- round
pub record AreRight (ls : List Lock) : Type 0 where
  pub each : (i : ℕ) (l : Lock) → slice_get ls i ≡ Some l → IsRightLock l
  pub once : (c i j : ℕ) (l m : Lock) → slice_get ls i ≡ Some l → slice_get ls j ≡ Some m
      → stands c l.queue ≡ true → stands c m.queue ≡ true → i ≡ j
  pub ends : (c : ℕ) → ComesToAnEnd ls (Some c)

-- ---- lists of inputs

-- the locks after them
abbrev pub locks_after : List Lock → List Input → List Lock
locks_after ls [] = ls
locks_after ls (i ∷ is) = locks_after (step ls i).locks is

-- all answers, in order
abbrev pub answers_after : List Lock → List Input → List (ℕ × Answer)
answers_after ls [] = []
answers_after ls (i ∷ is) = (step ls i).answers ++ answers_after (step ls i).locks is

-- a client leaves this many locks, one after the other, from 0 on
abbrev pub leaves : ℕ → ℕ → List Input
leaves c zero = []
leaves c (suc n) = leaves c n ++ Asked c n Leave ∷ []

-- the input names this lock
abbrev pub names : ℕ → Input → Bool
names at (Asked c i ask) = i == at
names at Restart = false

-- what they leave in the history of a lock
abbrev pub marks_of : ℕ → List Lock → List Input → List Mark
marks_of at ls [] = []
marks_of at ls (i ∷ is) =
    (if names at i then (step ls i).marks else []) ++ marks_of at (step ls i).locks is

-- the grants among answers, and those of a lock
abbrev pub grant_of : ℕ → Answer → Option Holder
grant_of c (answer.Granted token) = Some (record { client = c; token = token })
grant_of c _ = None

abbrev pub grants_in : List (ℕ × Answer) → List Holder
grants_in answers = filter_map (λ (a : ℕ × Answer). grant_of a.0 a.1) answers

abbrev pub grants_of : ℕ → List Lock → List Input → List Holder
grants_of at ls [] = []
grants_of at ls (i ∷ is) =
    (if names at i then grants_in (step ls i).answers else []) ++ grants_of at (step ls i).locks is

-- an input that ends this hold of the lock: a release with its token, or a leave, by its holder,
-- which is client 0 after a restart
abbrev pub ends_hold : ℕ → Holder → Input → Bool
ends_hold at h (Asked c i (Release token)) =
    (i == at) && ((token == h.token) && ((c == h.client) || (c == 0)))
ends_hold at h (Asked c i Leave) = (i == at) && ((c == h.client) || (c == 0))
ends_hold at h _ = false

-- an input with which this client waits for the lock no more: it cancels, it leaves, a restart
abbrev pub gives_up : ℕ → ℕ → Input → Bool
gives_up at client (Asked c i Cancel) = (i == at) && (c == client)
gives_up at client (Asked c i Leave) = (i == at) && (c == client)
gives_up at client (Asked c i _) = false
gives_up at client Restart = true

-- a fault of the lock's ring
abbrev pub breaks : ℕ → Input → Bool
breaks at (Asked c i (Corrupt m v)) = i == at
breaks at _ = false

-- none of the inputs is such a one
abbrev pub NoneIs : (Input → Bool) → List Input → Type 0
NoneIs test [] = Unit {0}
NoneIs test (i ∷ is) = (test i ≡ false) × NoneIs test is

-- ---- the promises

-- Locks of settled rings are right, held or not, while no client waits; what is right stays right.
abbrev pub EmptyQueuesAreRight : Type 0
EmptyQueuesAreRight =
    (ls : List Lock)
    → ((i : ℕ) (l : Lock) → slice_get ls i ≡ Some l
    → IsRing l.ring.ring × (is_settled l.ring.ring.values ≡ true) × (l.queue ≡ [])) → AreRight ls

abbrev pub RightStays : Type 0
RightStays = (ls : List Lock) (is : List Input) → AreRight ls → AreRight (locks_after ls is)

-- a client waits for a lock only while some client holds it
abbrev pub NobodyWaitsForNothing : Type 0
NobodyWaitsForNothing =
    (ls : List Lock) (is : List Input) → AreRight ls → (at : ℕ) (l : Lock)
    → slice_get (locks_after ls is) at ≡ Some l → l.holder ≡ None → l.queue ≡ []

-- no client waits for itself, however far round; and one that is refused because of a circle would
abbrev pub NoCircle : Type 0
NoCircle =
    (ls : List Lock) (is : List Input) → AreRight ls → (c : ℕ)
    → ComesToAnEnd (locks_after ls is) (Some c)

abbrev pub CirclesAreReal : Type 0
CirclesAreReal =
    (ls : List Lock) (i : ℕ) (l : Lock) (c : ℕ) → AreRight ls → slice_get ls i ≡ Some l
    → comes_to (length ls) ls c (client_of l.holder) ≡ true
    → (steps : ℕ) × (comes steps ls (client_of l.holder) ≡ Some c)

-- this hold continues: its token is the same, and its client or, after a restart, client 0
pub record GoesOn (h : Holder) (l : Lock) : Type 0 where
  pub now : Holder
  pub held : l.holder ≡ Some now
  pub token : now.token ≡ h.token
  pub client : (now.client ≡ h.client) ⊎ (now.client ≡ 0)

-- a client that leaves all locks holds none of them any more, and waits for none
abbrev pub LeaversAreGone : Type 0
LeaversAreGone =
    (ls : List Lock) (c i : ℕ) (l : Lock) → i < length ls
    → slice_get (locks_after ls (leaves c (length ls))) i ≡ Some l
    → (is_held_by c l.holder ≡ false) × (stands c l.queue ≡ false)

-- exclusion: a hold continues until an input ends it, restarts or not, and until then no client is
-- granted
abbrev pub Exclusion : Type 0
Exclusion =
    (ls : List Lock) (is : List Input) (at : ℕ) (l : Lock) (h : Holder) → slice_get ls at ≡ Some l
    → l.holder ≡ Some h → NoneIs (ends_hold at h) is
    → (grants_of at ls is ≡ [])
    × ((m : Lock) × (slice_get (locks_after ls is) at ≡ Some m) × GoesOn h m)

-- a release by another client, or with another token, does not end a hold: it is refused, and nothing
-- changes
abbrev pub OthersReleaseNothing : Type 0
OthersReleaseNothing =
    (ls : List Lock) (at : ℕ) (l : Lock) (c token : ℕ) → slice_get ls at ≡ Some l
    → is_held_with c token l.holder ≡ false
    → step ls (Asked c at (Release token))
    ≡ record { locks = ls; marks = []; answers = (c, answer.Refused refusal.Holder) ∷ [] }

-- the tokens rise, from the passes before on, up to the passes after
abbrev pub Rise : ℕ → List Holder → ℕ → Type 0
Rise low [] high = low ≤ high
Rise low (h ∷ hs) high = (low < h.token) × Rise h.token hs high

abbrev pub TokensRise : Type 0
TokensRise =
    (ls : List Lock) (is : List Input) (at : ℕ) (l : Lock) → AreRight ls
    → slice_get ls at ≡ Some l
    → (m : Lock) × (slice_get (locks_after ls is) at ≡ Some m)
    × Rise l.ring.grants (grants_of at ls is) m.ring.grants

-- with no fault between, each token is one more than the one before
abbrev pub AreCounted : ℕ → List Holder → Type 0
AreCounted passes [] = Unit {0}
AreCounted passes (h ∷ hs) = (h.token ≡ passes + 1) × AreCounted (passes + 1) hs

abbrev pub TokensAreCounted : Type 0
TokensAreCounted =
    (ls : List Lock) (is : List Input) (at : ℕ) (l : Lock) → AreRight ls
    → slice_get ls at ≡ Some l → NoneIs (breaks at) is
    → AreCounted l.ring.grants (grants_of at ls is)

-- Grants, up to that of w: each is of one of those that waited before it, in their order.
abbrev pub AreServed : List Waiter → Waiter → List Holder → Type 0
AreServed front w [] = Unit {0}
AreServed front w (h ∷ hs) =
    (h.client ≡ w.client)
    ⊎ ((gone others : List Waiter)
    × (next : Waiter)
    × (front ≡ gone ++ next ∷ others)
    × (h.client ≡ next.client)
    × AreServed others w hs)

-- first come, first served: while a client waits, only clients are granted that waited before it
abbrev pub FirstComeFirstServed : Type 0
FirstComeFirstServed =
    (ls : List Lock) (is : List Input) (at : ℕ) (l : Lock) (front : List Waiter) (w : Waiter)
    (back : List Waiter) → AreRight ls → slice_get ls at ≡ Some l → l.queue ≡ front ++ w ∷ back
    → NoneIs (gives_up at w.client) is → AreServed front w (grants_of at ls is)

-- the clients before a client in the queue
abbrev pub before : ℕ → List Waiter → List Waiter
before c [] = []
before c (w ∷ queue) = if w.client == c then [] else (w ∷ before c queue)

-- by this input one of those gives up
abbrev pub gives_way : ℕ → ℕ → Option Lock → Input → Bool
gives_way at c (Some l) (Asked d i Cancel) = (i == at) && stands d (before c l.queue)
gives_way at c (Some l) (Asked d i Leave) = (i == at) && stands d (before c l.queue)
gives_way at c _ _ = false

-- how many of them give up
abbrev pub given_up : ℕ → ℕ → List Lock → List Input → ℕ
given_up at c ls [] = 0
given_up at c ls (i ∷ is) =
    (if gives_way at c (slice_get ls at) i then 1 else 0) + given_up at c (step ls i).locks is

-- the client holds none of these holds
abbrev pub NoneOf : ℕ → List Holder → Type 0
NoneOf c [] = Unit {0}
NoneOf c (h ∷ hs) = (h.client ≢ c) × NoneOf c hs

-- With no fault between, the token with which a client is granted that waits is known beforehand,
-- less those before it that give up: it is one more than the passes so far and those before it.
abbrev pub TokensAreForeseen : Type 0
TokensAreForeseen =
    (ls : List Lock) (is : List Input) (i : Input) (at : ℕ) (l : Lock) (front : List Waiter)
    (w : Waiter) (back : List Waiter) (h : Holder) → AreRight ls → slice_get ls at ≡ Some l
    → l.queue ≡ front ++ w ∷ back → NoneIs (gives_up at w.client) (is ++ i ∷ [])
    → NoneIs (breaks at) (is ++ i ∷ []) → NoneOf w.client (grants_of at ls is)
    → grants_of at ls (is ++ i ∷ []) ≡ grants_of at ls is ++ h ∷ [] → h.client ≡ w.client
    → h.token + given_up at w.client ls is ≡ l.ring.grants + 1 + length front

-- the events among marks
abbrev pub events_of : List Mark → List Event
events_of [] = []
events_of (Call e ∷ ms) = e ∷ events_of ms
events_of (Survey seat ∷ ms) = events_of ms

-- an input makes one event at most; a fault and its repair, as many as the ring has machines
abbrev pub most_of_fault : Option Lock → ℕ
most_of_fault None = 0
most_of_fault (Some l) = 1 + most_passes (length l.ring.ring.values)

abbrev pub most_events : List Lock → Input → ℕ
most_events ls (Asked c i (Corrupt m v)) = most_of_fault (slice_get ls i)
most_events ls _ = 1

abbrev pub OneEventEach : Type 0
OneEventEach = (ls : List Lock) (i : Input) → length (events_of (step ls i).marks) ≤ most_events ls i

-- only the history: the number of a grant, of which a survey is the end
abbrev pub number_of : Reply → Option ℕ
number_of (reply.Granted number result) = Some number
number_of _ = None

abbrev pub order_of : Op → Option ℕ
order_of (op.Pass machine order) = Some order
order_of _ = None

-- the hold that is open after an event: a grant, or one that is carried
abbrev pub open_behind : Option ℕ → Event → Option ℕ
open_behind token e =
    if e.seat == grant_seat then number_of e.reply
    else if e.seat == carried_seat then order_of e.op else token

abbrev pub open_after : Option ℕ → List Mark → Option ℕ
open_after token [] = token
open_after token (Call e ∷ ms) = open_after (open_behind token e) ms
open_after token (Survey seat ∷ ms) = open_after None ms

-- grants, or what is carried, and surveys of ends alternate
abbrev pub Alternate : Option ℕ → List Mark → Type 0
Alternate token [] = Unit {0}
Alternate token (Call e ∷ ms) =
    (e.seat ≡ grant_seat → (token ≡ None) × (is_some (number_of e.reply) ≡ true))
    × (e.seat ≡ carried_seat → token ≡ None)
    × Alternate (open_behind token e) ms
Alternate token (Survey seat ∷ ms) =
    (is_some token ≡ true) × ((seat ≡ release_seat) ⊎ (seat ≡ leave_seat)) × Alternate None ms

abbrev pub token_of : Option Holder → Option ℕ
token_of h = option_map (λ (x : Holder). x.token) h

-- the history of a lock is its ring's, and shows its holds; so a restart, which knows only the
-- history, knows the lock: a hold that is open there is client 0's
pub record IsShown (l m : Lock) (marks : List Mark) : Type 0 where
  pub legal : IsLegal till l.ring (events_of marks)
  pub ring : m.ring ≡ after till l.ring (events_of marks)
  pub alternate : Alternate (token_of l.holder) marks
  pub open_hold : token_of m.holder ≡ open_after (token_of l.holder) marks

abbrev pub HistoryShowsHolds : Type 0
HistoryShowsHolds =
    (ls : List Lock) (is : List Input) (at : ℕ) (l : Lock) → AreRight ls
    → slice_get ls at ≡ Some l
    → (m : Lock) × (slice_get (locks_after ls is) at ≡ Some m) × IsShown l m (marks_of at ls is)

-- the lock that a restart makes of a history
abbrev pub recovered : State ℕ → Option ℕ → List Mark → Lock
recovered a token marks = record {
  ring = after till a (events_of marks);
  queue = [];
  holder = option_map (λ (t : ℕ). record { client = 0; token = t }) (open_after token marks);
}

abbrev pub RestartsRecover : Type 0
RestartsRecover =
    (ls : List Lock) (is : List Input) (at : ℕ) (l : Lock) → AreRight ls
    → slice_get ls at ≡ Some l
    → slice_get (locks_after ls (is ++ Restart ∷ [])) at
    ≡ Some (recovered l.ring (token_of l.holder) (marks_of at ls is))

-- The next segment of a lock's ring begins with its open hold. So each segment's history shows its
-- holds by itself, whatever came before, and a restart that knows only the last segment makes of
-- it the lock that was.
abbrev pub carries : Lock → List Mark
carries l = map Call (carried l.ring (token_of l.holder))

abbrev pub SegmentsShowHolds : Type 0
SegmentsShowHolds =
    (ls : List Lock) (is : List Input) (at : ℕ) (l : Lock) → AreRight ls
    → slice_get ls at ≡ Some l
    → (m : Lock) × (slice_get (locks_after ls is) at ≡ Some m)
    × IsShown (record l { holder = None }) m (carries l ++ marks_of at ls is)

abbrev pub SegmentsRecover : Type 0
SegmentsRecover =
    (ls : List Lock) (is : List Input) (at : ℕ) (l : Lock) → AreRight ls
    → slice_get ls at ≡ Some l
    → slice_get (locks_after ls (is ++ Restart ∷ [])) at
    ≡ Some (recovered l.ring None (carries l ++ marks_of at ls is))

-- what a segment begins with changes nothing of the lock
abbrev pub CarriedChangesNothing : Type 0
CarriedChangesNothing =
    (ls : List Lock) (at : ℕ) (l : Lock) → AreRight ls → slice_get ls at ≡ Some l
    → after till l.ring (events_of (carries l)) ≡ l.ring

-- no other answer than a grant, to another client
abbrev pub IsGrantOfAnother : ℕ → List (ℕ × Answer) → Type 0
IsGrantOfAnother c answers =
    (answers ≡ [])
    ⊎ ((d token : ℕ) × (answers ≡ (d, answer.Granted token) ∷ []) × (d ≢ c))

-- each ask is answered once, and a leave not at all; after the answer another may be granted
abbrev pub IsAnswered : ℕ → Ask → List (ℕ × Answer) → Type 0
IsAnswered c Leave answers = IsGrantOfAnother c answers
IsAnswered c _ answers =
    (a : Answer)
    × (others : List (ℕ × Answer))
    × (answers ≡ (c, a) ∷ others)
    × IsGrantOfAnother c others

abbrev pub OneAnswerEach : Type 0
OneAnswerEach =
    (ls : List Lock) (c i : ℕ) (ask : Ask) → AreRight ls → i < length ls
    → IsAnswered c ask (step ls (Asked c i ask)).answers
