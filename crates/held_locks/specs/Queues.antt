-- The holders of locks and the clients that wait for them (this project's own).
use Rattle.std.specs.Prelude.{ℕ, zero, suc, Bool, true, false, not, ◌&&◌, ◌||◌, ◌==◌, if◌then◌else◌, List, [], ◌∷◌, filter, Option, Some, None, option_map}
use Rattle.ring_model.specs.History.{State}
use Rattle.held_locks.specs.declared.answers.Waiter.{Waiter}
use Rattle.held_locks.specs.declared.answers.Holder.{Holder}

-- a lock: the state of its ring, the clients that wait for it, in order, and its holder
pub record Lock : Type 0 where
  pub ring : State ℕ
  pub queue : List Waiter
  pub holder : Option Holder

-- the client is in the queue
abbrev pub stands : ℕ → List Waiter → Bool
stands c [] = false
stands c (w ∷ queue) = (w.client == c) || stands c queue

-- the queue without the client
abbrev pub without : ℕ → List Waiter → List Waiter
without c queue = filter (λ (w : Waiter). not (w.client == c)) queue

-- the client holds, and it does so with this token
abbrev pub is_held_by : ℕ → Option Holder → Bool
is_held_by c None = false
is_held_by c (Some h) = h.client == c

abbrev pub is_held_with : ℕ → ℕ → Option Holder → Bool
is_held_with c token None = false
is_held_with c token (Some h) = (h.client == c) && (h.token == token)

-- the lock for which a client waits
abbrev pub waits_for : List Lock → ℕ → Option Lock
waits_for [] c = None
waits_for (l ∷ ls) c = if stands c l.queue then Some l else waits_for ls c

-- the client that holds the lock
abbrev pub client_of : Option Holder → Option ℕ
client_of h = option_map (λ (h : Holder). h.client) h

abbrev pub holder_of : Option Lock → Option ℕ
holder_of None = None
holder_of (Some l) = client_of l.holder

-- from this client to the holder of what it waits for, from there on in the same way: one comes to the
-- asker, or to no end in this many steps
abbrev pub comes_to : ℕ → List Lock → ℕ → Option ℕ → Bool
comes_to steps ls asker None = false
comes_to zero ls asker (Some c) = true
comes_to (suc steps) ls asker (Some c) =
    (c == asker) || comes_to steps ls asker (holder_of (waits_for ls c))
