-- The machine with names, beside locks of their own for each name (this project's own).
use Rattle.std.specs.Prelude.{◌≡◌, ◌⊎◌, ℕ, zero, suc, ◌<◌, ◌≤◌, ◌==◌, Bool, true, false, if◌then◌else◌, List, [], ◌∷◌, map, length, slice_get, Option, Some, None, is_some, option_map}
use Rattle.std.specs.Str.{bytes_eq}
use Rattle.held_locks.specs.declared.answers.Holder.{Holder}
use Rattle.held_locks.specs.declared.answers.Answer.{Answer}
use Rattle.held_locks.specs.declared.answers.Answer.TheVariants as answer
use Rattle.held_locks.specs.Queues.{Lock, client_of}
use Rattle.held_locks.specs.Locks.{Ask, Acquire, Try, Release, Corrupt, Input, Asked, Restart}
use Rattle.held_locks.specs.Promises.{AreRight, locks_after, answers_after}
use Rattle.lock_names.specs.declared.replies.Reply.{Reply}
use Rattle.lock_names.specs.declared.replies.Reply.TheVariants as reply
use Rattle.lock_names.specs.Names.{Bound, Named, NamedInput, Of, Again, More, Said, token_in, found, free, replied, step_named}
use Rattle.lock_names.specs.Promises.{IsNamed, AreAllowed, IsForHold, NoneHeld, beginning}
use Rattle.name_bindings.specs.Bindings.{AreDistinct}

-- ---- tokens aside

-- an answer without its token, and without what it says of the ring
abbrev pub aside : Answer → Answer
aside (answer.Granted token) = answer.Granted 0
aside (answer.Corrupted value) = answer.Corrupted 0
aside (answer.Stats s) = answer.Stats (record {
  machines = 0;
  waiters = s.waiters;
  passes = 0;
  holder = option_map (λ (h : Holder). record { client = h.client; token = 0 }) s.holder;
})
aside a = a

abbrev pub aside_reply : Reply → Reply
aside_reply (reply.Lock a) = reply.Lock (aside a)
aside_reply reply.Names = reply.Names

abbrev pub said_aside : Said → ℕ × Reply
said_aside d = (d.client, aside_reply d.reply)

abbrev pub answer_aside : ℕ × Answer → ℕ × Reply
answer_aside a = (a.0, reply.Lock (aside a.1))

-- ---- the lock of its own of each name

-- the place of a name
abbrev pub place : List ℕ → List (List ℕ) → Option ℕ
place x [] = None
place x (n ∷ ns) = if bytes_eq x n then Some zero else option_map suc (place x ns)

-- the token of the hold that a name has
abbrev pub told_at : Bound → Option Lock → Option ℕ
told_at b None = None
told_at b (Some l) = option_map (λ (h : Holder). token_in b h.token) l.holder

abbrev pub told_now : Named → Option (ℕ × Bound) → Option ℕ
told_now s None = None
told_now s (Some p) = told_at p.1 (slice_get s.locks p.0)

-- A release with this token is one with the token of the lock of its own. One with another token is
-- one with 0, which no hold has.
abbrev pub own_token : ℕ → Option ℕ → Option Holder → ℕ
own_token token (Some told) (Some h) = if token == told then h.token else 0
own_token token _ _ = 0

abbrev pub own_ask : Ask → Option ℕ → Option Lock → Ask
own_ask (Release token) told None = Release 0
own_ask (Release token) told (Some m) = Release (own_token token told m.holder)
own_ask ask told m = ask

-- a fault of a ring does not reach the locks of their own, nor what is refused for lack of names
abbrev pub reaches : Ask → Option (ℕ × Bound) → Option ℕ → Bool
reaches (Corrupt i v) f o = false
reaches (Acquire label) None None = false
reaches (Try label) None None = false
reaches _ _ _ = true

-- what the locks of their own are asked, by the ring of the name, the free ring and the place
abbrev pub own_of : Named → List Lock → ℕ → Ask → Option (ℕ × Bound) → Option ℕ → Option ℕ
    → List Input
own_of s ls c ask f free None = []
own_of s ls c ask f free (Some j) =
    if reaches ask f free then Asked c j (own_ask ask (told_now s f) (slice_get ls j)) ∷ [] else []

abbrev pub own_inputs : List (List ℕ) → Named → List Lock → NamedInput → List Input
own_inputs ns s ls (Of c x ask) =
    own_of s ls c ask (found x s.names) (free s.names) (place x ns)
own_inputs ns s ls Again = Restart ∷ []
own_inputs ns s ls (More a) = []

-- ---- the law

-- of each of the names the lock of its own has the same holder and the same waiting clients as the
-- ring of the name; and neither if no ring has it
pub record AreOwn (ns : List (List ℕ)) (s : Named) (ls : List Lock) : Type 0 where
  pub right : AreRight ls
  pub many : length ls ≡ length ns
  pub apart : AreDistinct ns
  pub tokens : (j : ℕ) (m : Lock) (h : Holder) → slice_get ls j ≡ Some m → m.holder ≡ Some h
      → 0 < h.token
  pub known : (i : ℕ) (b : Bound) → slice_get s.names i ≡ Some (Some b)
      → (j : ℕ) × (slice_get ns j ≡ Some b.name)
  pub used : (j : ℕ) (m : Lock) (i : ℕ) (b : Bound) (l : Lock) → slice_get ns j ≡ Some b.name
      → slice_get ls j ≡ Some m → slice_get s.names i ≡ Some (Some b)
      → slice_get s.locks i ≡ Some l
      → (client_of l.holder ≡ client_of m.holder) × (l.queue ≡ m.queue)
  pub unused : (j : ℕ) (x : List ℕ) (m : Lock) → slice_get ns j ≡ Some x
      → slice_get ls j ≡ Some m → found x s.names ≡ None → (m.holder ≡ None) × (m.queue ≡ [])

-- so it is in a beginning in which no client holds a lock, of either kind
abbrev pub OwnBegin : Type 0
OwnBegin =
    (fixed ns : List (List ℕ)) (ls own : List Lock) → AreRight ls → AreRight own → NoneHeld ls
    → NoneHeld own → AreDistinct ns → length own ≡ length ns
    → ((i : ℕ) (x : List ℕ) → slice_get fixed i ≡ Some x → (j : ℕ) × (slice_get ns j ≡ Some x))
    → AreOwn ns (beginning fixed ls) own

-- All rings of the pool are held, and the name has none: an ask for a hold is refused, and nothing
-- changes.
pub record IsRefused (s : Named) (c : ℕ) (x : List ℕ) (ask : Ask) : Type 0 where
  pub for_hold : IsForHold ask
  pub unused : found x s.names ≡ None
  pub all_held : (i : ℕ) (l : Lock) → s.fixed ≤ i → slice_get s.locks i ≡ Some l
      → is_some l.holder ≡ true
  pub refused : step_named s (Of c x ask) ≡ replied s c x reply.Names

-- an input is answered as the locks of their own answer, or is one that does not reach them
abbrev pub IsExcused : Named → NamedInput → Type 0
IsExcused s (Of c x (Corrupt i v)) = Unit {0}
IsExcused s (Of c x ask) = IsRefused s c x ask
IsExcused s Again = ⊥
IsExcused s (More a) = ⊥

abbrev pub IsAnsweredAlike : List (List ℕ) → Named → List Lock → NamedInput → Type 0
IsAnsweredAlike ns s ls i =
    (map said_aside (step_named s i).said
    ≡ map answer_aside (answers_after ls (own_inputs ns s ls i)))
    ⊎ ((own_inputs ns s ls i ≡ []) × IsExcused s i)

-- so are all of them
abbrev pub AreAnsweredAlike : List (List ℕ) → Named → List Lock → List NamedInput → Type 0
AreAnsweredAlike ns s ls [] = Unit {0}
AreAnsweredAlike ns s ls (i ∷ is) =
    IsAnsweredAlike ns s ls i
    × AreAnsweredAlike ns (step_named s i).named (locks_after ls (own_inputs ns s ls i)) is

-- the inputs ask of no other names than these
abbrev pub AreAmong : List (List ℕ) → List NamedInput → Type 0
AreAmong ns [] = Unit {0}
AreAmong ns (Of c x ask ∷ is) = ((j : ℕ) × (slice_get ns j ≡ Some x)) × AreAmong ns is
AreAmong ns (Again ∷ is) = AreAmong ns is
AreAmong ns (More a ∷ is) = AreAmong ns is

-- The answers are those of locks of their own, one for each name, for ever, tokens aside; or
-- `names` if as many names are held as may be.
abbrev pub NamesAreLocks : Type 0
NamesAreLocks =
    (ns : List (List ℕ)) (s : Named) (ls : List Lock) (is : List NamedInput) → IsNamed s
    → AreAllowed s is → AreOwn ns s ls → AreAmong ns is → AreAnsweredAlike ns s ls is
