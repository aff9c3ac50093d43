-- Which part of a plan concerns a ring, and what a seat's log says of it.
use Rattle.std.specs.Prelude.{◌≡◌, ℕ, ◌==◌, ◌<◌, ◌≤◌, Bool, true, false, List, filter, map, length, All, Option, Some, None, slice_get}
use Rattle.ring_model.specs.Ring.{Ring}
use Rattle.ring_model.specs.declared.events.Op.{Op}
use Rattle.ring_model.specs.declared.events.Op.TheVariants as op
use Rattle.ring_model.specs.declared.events.Event.{Event}
use Rattle.ring_model.specs.declared.events.Entry.{Entry}
use Rattle.ring_model.specs.declared.events.Entry.TheVariants as entry
use Rattle.ring_state.specs.Sizes.{Size}
use Rattle.ring_settings.specs.Limits.{action_limit}
use Rattle.ring_settings.specs.Actions.{IsActionFor}
use Rattle.ring_settings.specs.declared.actions.Plan.{Plan}
use Rattle.ring_settings.specs.declared.actions.Action.{Action}
use Rattle.ring_settings.specs.declared.actions.Action.TheVariants as action

-- the ring that an action is for
abbrev pub ring_of : Action → ℕ
ring_of (action.Pass ring machine order) = ring
ring_of (action.Corrupt ring machine value) = ring
ring_of (action.Survey ring) = ring

-- the machine is one of this ring's, and the value is one of its values
abbrev pub IsActionOn : Ring → Action → Type 0
IsActionOn r (action.Pass ring machine order) = machine < length r.values
IsActionOn r (action.Corrupt ring machine value) = (machine < length r.values) × (value < r.k)
IsActionOn r (action.Survey ring) = Unit {0}

-- each action for this ring can be made there
abbrev pub AreActionsOn : ℕ → Ring → List Action → Type 0
AreActionsOn ring r actions = All (λ (a : Action). ring_of a ≡ ring → IsActionOn r a) actions

-- a plan has no more actions than the limit
abbrev pub IsShort : Plan → Type 0
IsShort p = length p.actions.items ≤ action_limit

-- its actions for this ring can be made there
abbrev pub IsPlanOn : ℕ → Ring → Plan → Type 0
IsPlanOn ring r p = AreActionsOn ring r p.actions.items

-- each of its actions is for a ring of these sizes that is there, and can be made there
abbrev pub IsPlanFor : List Size → Plan → Type 0
IsPlanFor sizes p = All (IsActionFor sizes) p.actions.items

-- the part of a plan that concerns a ring
abbrev pub part : ℕ → List Action → List Action
part ring actions = filter (λ (a : Action). ring_of a == ring) actions

-- a call of a ring, read as an action; a member of a group is none, since plans have no groups
abbrev pub action_of_op : ℕ → Op → Option Action
action_of_op ring (op.Pass machine order) = Some (action.Pass ring machine order)
action_of_op ring (op.Member machine order left) = None
action_of_op ring (op.Corrupt machine value) = Some (action.Corrupt ring machine value)

-- an entry of a log, read as an action
abbrev pub action_of : ℕ → Entry → Option Action
action_of ring (entry.Receipt r) = action_of_op ring r.event.op
action_of ring (entry.Survey s) = Some (action.Survey ring)

-- a log read as actions
abbrev pub actions_of : ℕ → List Entry → List (Option Action)
actions_of ring log = map (action_of ring) log

-- the part of a plan that concerns a ring, as a log of it reads
abbrev pub planned : ℕ → List Action → List (Option Action)
planned ring actions = map (λ (a : Action). Some a) (part ring actions)

-- the seat of this number did the part of some actions that concerns a ring: this seat's log reads
-- so
abbrev pub HasDone : ℕ → ℕ → List Action → ℕ → List Entry → Type 0
HasDone ring number actions seat log =
    (seat ≡ number) × (actions_of ring log ≡ planned ring actions)

-- a pass or a corruption, not a survey
abbrev pub is_call : Action → Bool
is_call (action.Pass ring machine order) = true
is_call (action.Corrupt ring machine value) = true
is_call (action.Survey ring) = false

-- the calls of events, read as actions
abbrev pub calls_read : ℕ → List Event → List (Option Action)
calls_read ring h = map (λ (e : Event). action_of_op ring e.op) h

-- the calls of a part of a plan, as events of the ring read
abbrev pub planned_calls : ℕ → List Action → List (Option Action)
planned_calls ring actions = map (λ (a : Action). Some a) (filter is_call (part ring actions))

-- the entries of two lists at one place are related
abbrev pub Pairs : {A B : Type 0} → (ℕ → A → B → Type 0) → List A → List B → Type 0
Pairs {A} {B} rel xs ys =
    (i : ℕ) (x : A) (y : B) → slice_get xs i ≡ Some x → slice_get ys i ≡ Some y → rel i x y
