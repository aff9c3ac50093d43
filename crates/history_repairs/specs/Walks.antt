-- The walk over a history, with the repair that is open (this project's own; no public clause names
-- it).
use Rattle.std.specs.Prelude.{ℕ, Bool, cond, List, [], ◌∷◌, map, take, drop, Option, Some, None}
use Rattle.ring_model.specs.Ring.{Ring, ring_with}
use Rattle.ring_model.specs.History.{State, after}
use Rattle.ring_model.specs.Resources.{till}
use Rattle.ring_model.specs.Surveys.{is_corrupted}
use Rattle.ring_model.specs.declared.events.Event.{Event}
use Rattle.saved_history.specs.Content.{Block}
use Rattle.ring_check.specs.Table.{event_of, first_state}
use Rattle.history_repairs.specs.declared.repairs.Repair.{Repair}
use Rattle.history_repairs.specs.Repairs.{begun, with_event, ended}

-- the state after the first events of a block, and the events after these
abbrev pub state_at : Block → ℕ → State ℕ
state_at b place =
    after till (first_state (ring_with b.k b.start)) (map event_of (take place b.events))

abbrev pub events_from : Block → ℕ → List Event
events_from b place = map event_of (drop place b.events)

-- the repair that ends where the ring is settled, if one is open
abbrev pub ending : Option Repair → Bool → List Repair
ending None settled = []
ending (Some r) settled = cond settled (r ∷ []) []

-- and what is open then
abbrev pub left_open : Option Repair → Bool → Option Repair
left_open None settled = None
left_open (Some r) settled = cond settled None (Some r)

-- what is open after one more event, which led to a ring
abbrev pub with_event_of : Option Repair → Event → Option Repair
with_event_of None e = None
with_event_of (Some r) e = Some (with_event r e.reply)

abbrev pub after_event : Option Repair → Event → Ring → Option Repair
after_event current e r = cond (is_corrupted e.reply) (Some (begun r)) (with_event_of current e)

-- what becomes of the repair that is open
abbrev pub open_ended : Option Repair → State ℕ → List Event → List Repair
open_ended None a es = []
open_ended (Some r) a es = ended till r a es

-- the passes that were counted of it
abbrev pub counted : Option Repair → ℕ
counted None = 0
counted (Some r) = r.passes
