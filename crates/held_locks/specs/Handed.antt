-- Open holds that are handed to other clients, after a start (this project's own).
use Rattle.std.specs.Prelude.{◌≡◌, ◌≢◌, ◌⊎◌, List, [], ◌∷◌, slice_get, slice_set, Some, ℕ}
use Rattle.held_locks.specs.declared.handing.Handover.{Handover}
use Rattle.held_locks.specs.declared.answers.Holder.{Holder}
use Rattle.held_locks.specs.declared.answers.Answer.TheVariants as answer
use Rattle.held_locks.specs.declared.answers.Refusal.TheVariants as refusal
use Rattle.held_locks.specs.Queues.{Lock}
use Rattle.held_locks.specs.Locks.{Release, Input, Asked, step, restarted}
use Rattle.held_locks.specs.Promises.{locks_after, grants_of, ends_hold, NoneIs, GoesOn}
use Rattle.held_locks.specs.Kept.{LockView, lock_of, locks_of}

-- client 0 holds the lock with this token, and nobody waits for it
pub record IsOpen (v : LockView) (token : ℕ) : Type 0 where
  pub held : v.holder ≡ Some (record { client = 0; token = token })
  pub free : v.queue ≡ []

-- the lock, whose hold is this client's
abbrev pub handed : LockView → Handover → LockView
handed v h = record {
  ring = v.ring;
  queue = v.queue;
  holder = Some (record { client = h.client; token = h.token });
}

-- The open hold is the client's now, with the same token; nothing else has changed.
pub record IsHanded (old new : List LockView) (h : Handover) : Type 0 where
  pub lock : LockView
  pub there : slice_get old h.lock ≡ Some lock
  pub held : IsOpen lock h.token
  pub new_is : new ≡ slice_set old h.lock (handed lock h)

-- there is no such lock, or it has no such open hold
abbrev pub CannotBeHanded : List LockView → Handover → Type 0
CannotBeHanded vs h = (v : LockView) → slice_get vs h.lock ≡ Some v → ¬ IsOpen v h.token

-- each was handed over, one after the other
abbrev pub AreHanded : List LockView → List Handover → List LockView → Type 0
AreHanded old [] new = new ≡ old
AreHanded old (h ∷ hs) new = (mid : List LockView) × IsHanded old mid h × AreHanded mid hs new

-- A hold that was open at a restart is open after it, and handed back to its holder: the lock is
-- the one that was, without its waiters.
abbrev pub HoldsAreHandedBack : Type 0
HoldsAreHandedBack =
    (l : Lock) (was : Holder) (v : LockView) (h : Handover) → l.holder ≡ Some was
    → lock_of v ≡ restarted l → h.token ≡ was.token → h.client ≡ was.client
    → IsOpen v h.token × (lock_of (handed v h) ≡ record l { queue = [] })

-- This hold of the lock is its client's. With its token the client may release the lock, for which
-- nobody waits; a release by another client, client 0 too, or with another token is refused, and
-- nothing changes. Until an input ends the hold it lasts, over restarts too, and nobody is granted.
pub record IsTheirs (locks : List Lock) (at : ℕ) (h : Holder) : Type 0 where
  pub released : (step locks (Asked h.client at (Release h.token))).answers
      ≡ (h.client, answer.Released) ∷ []
  pub others : (c token : ℕ) → (c ≢ h.client) ⊎ (token ≢ h.token)
      → step locks (Asked c at (Release token))
      ≡ record { locks = locks; marks = []; answers = (c, answer.Refused refusal.Holder) ∷ [] }
  pub excluded : (is : List Input) → NoneIs (ends_hold at h) is
      → (grants_of at locks is ≡ [])
      × ((m : Lock) × (slice_get (locks_after locks is) at ≡ Some m) × GoesOn h m)

-- a law: a hold that was handed over is the client's to which it was handed
abbrev pub HandedHoldsAreTheirs : Type 0
HandedHoldsAreTheirs =
    (old new : List LockView) (h : Handover) → IsHanded old new h
    → IsTheirs (locks_of new) h.lock (record { client = h.client; token = h.token })
