-- The machines that asked for passes, and that were granted them, in all and since the ring has
-- settled.
use Rattle.std.specs.Prelude.{ℕ, Bool, true, false, cond, not, ◌&&◌, ◌==◌, List, [], ◌∷◌}
use Rattle.std.specs.List.{count_by}
use Rattle.ring_model.specs.Ring.{is_settled}
use Rattle.ring_model.specs.History.{Works, State, next}
use Rattle.ring_model.specs.Surveys.{is_corrupted}
use Rattle.ring_model.specs.declared.events.Op.{Op}
use Rattle.ring_model.specs.declared.events.Op.TheVariants.{Pass, Member, Corrupt}
use Rattle.ring_model.specs.declared.events.Reply.{Reply}
use Rattle.ring_model.specs.declared.events.Reply.TheVariants.{Granted}
use Rattle.ring_model.specs.declared.events.Event.{Event}

-- a granted pass of machine i, by itself or as a member of a group
abbrev pub is_grant_of : ℕ → Op → Reply → Bool
is_grant_of i (Pass machine order) (Granted number result) = machine == i
is_grant_of i (Member machine order left) (Granted number result) = machine == i
is_grant_of i _ _ = false

-- how many granted passes of a history are machine i's
abbrev pub grants_of : ℕ → List Event → ℕ
grants_of i h = count_by (λ (e : Event). is_grant_of i e.op e.reply) h

-- the machine of a call that is a pass, by itself or as a member of a group, before what follows
abbrev pub and_asked : Op → List ℕ → List ℕ
and_asked (Pass machine order) machines = machine ∷ machines
and_asked (Member machine order left) machines = machine ∷ machines
and_asked (Corrupt machine value) machines = machines

-- the machines that the passes among the events ask for, in order
abbrev pub asked_machines : List Event → List ℕ
asked_machines [] = []
asked_machines (e ∷ es) = and_asked e.op (asked_machines es)

-- the machine of a granted pass, before what follows
abbrev pub and_granted : Op → Reply → List ℕ → List ℕ
and_granted (Pass machine order) (Granted number result) machines = machine ∷ machines
and_granted (Member machine order left) (Granted number result) machines = machine ∷ machines
and_granted _ _ machines = machines

-- the machines whose passes were granted, in order
abbrev pub granted_machines : List Event → List ℕ
granted_machines [] = []
granted_machines (e ∷ es) = and_granted e.op e.reply (granted_machines es)

-- no event is a corruption, and the ring is settled before each
abbrev pub is_settled_run : {C : Type 0} → Works C → State C → List Event → Bool
is_settled_run w a [] = true
is_settled_run w a (e ∷ es) =
    is_settled a.ring.values && (not (is_corrupted e.reply) && is_settled_run w (next w a e.op) es)

-- the settled run: the longest suffix of the history that has no corruption and before each of
-- whose events the ring is settled (this project's own)
abbrev pub settled_run : {C : Type 0} → Works C → State C → List Event → List Event
settled_run w a [] = []
settled_run w a (e ∷ es) =
    cond (is_settled_run w a (e ∷ es)) (e ∷ es) (settled_run w (next w a e.op) es)

-- machine i's granted passes in the settled run
abbrev pub settled_grants_of : {C : Type 0} → Works C → State C → ℕ → List Event → ℕ
settled_grants_of w a i h = grants_of i (settled_run w a h)
