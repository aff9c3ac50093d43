-- The one-thread ring under a central daemon: its steps, and the histories that they make.
use Rattle.std.specs.Prelude.{◌≡◌, ℕ, ◌+◌, ◌<◌, cond, List, [], ◌∷◌, length, slice_index, true, false}
use Rattle.ring_model.specs.Ring.{Ring, is_privileged, written, moved}
use Rattle.ring_model.specs.declared.events.Op.{Op}
use Rattle.ring_model.specs.declared.events.Op.TheVariants.{Pass, Member, Corrupt}
use Rattle.ring_model.specs.declared.events.Reply.{Reply}
use Rattle.ring_model.specs.declared.events.Reply.TheVariants.{Granted, NotPrivileged, Corrupted}
use Rattle.ring_model.specs.declared.events.Event.{Event}

-- the work of a resource, as two functions of its content, the machine and the order: its content
-- afterwards, and its answer
pub record Works (C : Type 0) : Type 0 where
  pub after : C → ℕ → ℕ → C
  pub answer : C → ℕ → ℕ → ℕ

-- a state of the one-thread ring: the ring, the content of the resource, and the number of grants
-- so far
pub record State (C : Type 0) : Type 0 where
  pub ring : Ring
  pub content : C
  pub grants : ℕ

-- the state before any event
abbrev pub opening : {C : Type 0} → Ring → C → State C
opening r c = record { ring = r; content = c; grants = 0 }

-- the state after a corruption
abbrev pub corrupted_state : {C : Type 0} → State C → ℕ → ℕ → State C
corrupted_state a i v = record { ring = written a.ring i v; content = a.content; grants = a.grants }

-- with the work w of the resource
module _ {C : Type 0} (w : Works C) where
  -- the state after a granted pass
  abbrev pub granted_state : State C → ℕ → ℕ → State C
  granted_state a i order = record {
    ring = moved a.ring i;
    content = w.after a.content i order;
    grants = a.grants + 1;
  }

  -- a granted pass: the machine is privileged, does the work and moves (Dijkstra 1974)
  abbrev pub IsGrant : State C → ℕ → ℕ → ℕ → ℕ → State C → Type 0
  IsGrant a i order number result b =
      (i < length a.ring.values)
      × (is_privileged a.ring.values i ≡ true)
      × (number ≡ a.grants + 1)
      × (result ≡ w.answer a.content i order)
      × (b ≡ granted_state a i order)

  -- One step of the daemon, by cases on the call and its reply: a privileged machine passes, by
  -- itself or as a member of a group; another, by itself, changes nothing; a corruption writes one
  -- value. No other reply is a step.
  abbrev pub StepOf : State C → Op → Reply → State C → Type 0
  StepOf a (Pass i order) (Granted number result) b = IsGrant a i order number result b
  StepOf a (Member i order left) (Granted number result) b = IsGrant a i order number result b
  StepOf a (Pass i order) NotPrivileged b =
      (i < length a.ring.values) × (is_privileged a.ring.values i ≡ false) × (b ≡ a)
  StepOf a (Corrupt i v) (Corrupted old) b =
      (i < length a.ring.values)
      × (v < a.ring.k)
      × (old ≡ slice_index a.ring.values i)
      × (b ≡ corrupted_state a i v)
  StepOf a _ _ b = ⊥

  -- one step, by an event
  abbrev pub Step : State C → Event → State C → Type 0
  Step a e b = StepOf a e.op e.reply b

  -- the state after a call, whoever makes it: that of the only step with this call, where there is
  -- one
  abbrev pub next : State C → Op → State C
  next a (Pass i order) = cond (is_privileged a.ring.values i) (granted_state a i order) a
  next a (Member i order left) = cond (is_privileged a.ring.values i) (granted_state a i order) a
  next a (Corrupt i v) = corrupted_state a i v

  -- the reply to a call: that of the only step with this call, where there is one
  abbrev pub reply : State C → Op → Reply
  reply a (Pass i order) =
      cond (is_privileged a.ring.values i) (Granted (a.grants + 1) (w.answer a.content i order))
      NotPrivileged
  reply a (Member i order left) =
      cond (is_privileged a.ring.values i) (Granted (a.grants + 1) (w.answer a.content i order))
      NotPrivileged
  reply a (Corrupt i v) = Corrupted (slice_index a.ring.values i)

  -- the state after the events of a history
  abbrev pub after : State C → List Event → State C
  after a [] = a
  after a (e ∷ es) = after (next a e.op) es

  -- a history is legal from a state where each event is a step from the state before it
  abbrev pub IsLegal : State C → List Event → Type 0
  IsLegal a [] = Unit {0}
  IsLegal a (e ∷ es) = Step a e (next a e.op) × IsLegal (next a e.op) es
