-- A client that leaves all names (this project's own).
use Rattle.std.specs.Prelude.{◌≡◌, ℕ, suc, ◌+◌, ◌-◌, ◌^◌, ◌<◌, nat_lt, ◌||◌, if◌then◌else◌, List, [], ◌∷◌, ◌++◌, map, length, slice_get, slice_set, Option, Some, None, is_some, option_map}
use Rattle.held_locks.specs.declared.answers.Holder.{Holder}
use Rattle.held_locks.specs.declared.answers.Left.{Left}
use Rattle.held_locks.specs.Queues.{Lock, client_of}
use Rattle.held_locks.specs.Promises.{locks_after, leaves}
use Rattle.held_locks.specs.Kept.{IsLeft}
use Rattle.lock_names.specs.Names.{Bound, Named, token_in, told_holder, total, kept, Said, named_after, said_after, leave_each}
use Rattle.lock_names.specs.Promises.{IsNamed}
use Rattle.lock_names.specs.Kept.{NamedView, named_of, grant_said}

-- the name of ring i, if its lock is this: of the pool it stays only while the lock is held
abbrev pub settled_name : ℕ → ℕ → Lock → Option Bound → Option Bound
settled_name fixed i l None = None
settled_name fixed i l (Some b) = kept (nat_lt i fixed || is_some (client_of l.holder)) b

-- those of all rings, from ring i on
abbrev pub settled_names : ℕ → ℕ → List Lock → List (Option Bound) → List (Option Bound)
settled_names fixed i [] os = []
settled_names fixed i (l ∷ ls) [] = []
settled_names fixed i (l ∷ ls) (o ∷ os) =
    settled_name fixed i l o ∷ settled_names fixed (suc i) ls os

-- the state whose locks have become these
abbrev pub settled : Named → List Lock → Named
settled s ls = record {
  locks = ls;
  names = settled_names s.fixed 0 ls s.names;
  fixed = s.fixed;
  top = s.top + (total ls - total s.locks);
}

-- A client that leaves all names leaves all locks, and then each name is kept or forgotten.
abbrev pub LeavesAreSettled : Type 0
LeavesAreSettled =
    (s : Named) (c : ℕ) → IsNamed s → named_after s (leave_each c s.names)
    ≡ settled s (locks_after s.locks (leaves c (length s.locks)))

-- ---- as it is kept

-- how a ring is bound; if it has no name, the numbers of its lock are its tokens
abbrev pub bound_or : Option (Option Bound) → Bound
bound_or (Some (Some b)) = b
bound_or _ = record { name = []; before = 0; floor = 0 }

-- what a leave did to the lock of a ring, with the token of the ring's name
abbrev pub told_left : List (Option Bound) → Left → Left
told_left os l = record {
  lock = l.lock;
  ended = l.ended;
  granted = option_map (told_holder (bound_or (slice_get os l.lock))) l.granted;
}

-- the ring has a name, and this token has 64 bits
abbrev pub IsTellableLeft : List (Option Bound) → Left → Type 0
IsTellableLeft os l =
    (b : Bound)
    × (slice_get os l.lock ≡ Some (Some b))
    × ((h : Holder) → l.granted ≡ Some h → token_in b h.token < 2 ^ 64)

-- the names after it: a ring of the pool loses its name, if nobody is granted its lock
abbrev pub name_left : ℕ → List (Option Bound) → Left → List (Option Bound)
name_left fixed os l =
    if nat_lt l.lock fixed || is_some l.granted then os else slice_set os l.lock None

abbrev pub names_left : ℕ → List (Option Bound) → List Left → List (Option Bound)
names_left fixed os [] = os
names_left fixed os (l ∷ ls) = names_left fixed (name_left fixed os l) ls

-- how many grants there are
abbrev pub grant_count : Option Holder → ℕ
grant_count None = 0
grant_count (Some h) = 1

abbrev pub grants_in : List Left → ℕ
grants_in [] = 0
grants_in (l ∷ ls) = grant_count l.granted + grants_in ls

-- what is said to the clients that are granted
abbrev pub said_left : List (Option Bound) → List Left → List Said
said_left os [] = []
said_left os (l ∷ ls) =
    grant_said (bound_or (slice_get os l.lock)).name l.granted ++ said_left os ls

-- A client left all names: the state, and what is said, are the machine's after it left one
-- name after the other; and its locks were left so, which is reported with the tokens of the names.
-- Each ring of the pool of which that says that nobody is granted has no name any more.
pub record IsLeftByName (old new : NamedView) (c : ℕ) (left : List Left) : Type 0 where
  pub named : named_of new ≡ named_after (named_of old) (leave_each c old.names)
  pub said : said_left old.names left ≡ said_after (named_of old) (leave_each c old.names)
  pub raw : List Left
  pub locks : IsLeft old.locks new.locks c raw
  pub told : left ≡ map (told_left old.names) raw
  pub names : new.names ≡ names_left old.fixed old.names left
