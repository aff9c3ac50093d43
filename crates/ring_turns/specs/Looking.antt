-- The result of a client's look at the desk (this project's own).
use Rattle.std.specs.Prelude.{◌≡◌, ◌≢◌, ℕ, true, List, Option, Some, slice_get}
use Rattle.ring_model.specs.Ring.{first_privileged}
use Rattle.ring_model.specs.History.{Works, State, after}
use Rattle.ring_model.specs.Surveys.{is_granted}
use Rattle.ring_model.specs.declared.events.Event.{Event}
use Rattle.ring_model.specs.declared.events.Op.TheVariants.{Pass}
use Rattle.ring_model.specs.declared.events.Receipt.{Receipt}
use Rattle.ring_shared.specs.Client.{Client}
use Rattle.ring_shared.specs.Calls.{IsToldCall}
use Rattle.ring_turns.specs.Spared.{on_order}
use Rattle.ring_turns.specs.Waiting.{HasWaited, HasLeft}
use Rattle.ring_turns.specs.declared.desks.Look.{Look}
use Rattle.ring_turns.specs.declared.desks.Look.TheVariants.{Taken, PassedOn, Waits}

-- after all of the history this machine is the first that is privileged
abbrev pub IsFirst : {C : Type 0} → Works C → State C → List Event → ℕ → Type 0
IsFirst w a h i = i ≡ first_privileged (after w a h).ring.values

-- the client called for a pass of this machine on this order, has its receipt, and it was granted
pub record IsGrantedPass {C : Type 0} (w : Works C) (a : State C) (before after : Client)
    (machine order : ℕ) (r : Receipt) : Type 0 where
  pub told : IsToldCall w a before after (Pass machine order) r
  pub granted : is_granted r.event.reply ≡ true

-- one look of a client that waits since this place: its own machine was granted its pass, another's
-- was passed on, or nothing was called
abbrev pub IsLook : {C : Type 0} → Works C → State C → Client → Client → ℕ → ℕ → Look → Type 0
IsLook w a before after at order (Taken r) =
    IsGrantedPass w a before after before.number order r
    × HasWaited w a after.seen before.number at r.position
IsLook w a before after at order (PassedOn r) =
    (m : ℕ) × (m ≢ before.number) × IsGrantedPass w a before after m on_order r
IsLook w a before after at order Waits = after.log ≡ before.log

-- client i is held up: after all of the history the first privileged machine is that of another
-- client, which waits
pub record IsHeldUp {C : Type 0} (w : Works C) (a : State C) (h : List Event)
    (waits : List (Option ℕ)) (i : ℕ) : Type 0 where
  pub machine : ℕ
  pub first : IsFirst w a h machine
  pub apart : machine ≢ i
  pub since : ℕ
  pub waiting : slice_get waits machine ≡ Some (Some since)

-- the clients that wait after a look of client i, which has seen this history then: after its turn
-- it waits no more; and it looks again later only if it is held up
abbrev pub IsDeskAfter : {C : Type 0} → Works C → State C → List Event → List (Option ℕ)
    → List (Option ℕ) → ℕ → Look → Type 0
IsDeskAfter w a h before after i (Taken r) = HasLeft before after i
IsDeskAfter w a h before after i (PassedOn r) = after ≡ before
IsDeskAfter w a h before after i Waits = (after ≡ before) × IsHeldUp w a h after i
