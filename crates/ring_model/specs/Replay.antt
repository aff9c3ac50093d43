-- Words for the plain replay of a history: a state with the till from its parts, and the machine of
-- a call.
use Rattle.std.specs.Prelude.{ℕ}
use Rattle.ring_model.specs.Ring.{Ring}
use Rattle.ring_model.specs.History.{State}
use Rattle.ring_model.specs.declared.events.Op.{Op}
use Rattle.ring_model.specs.declared.events.Op.TheVariants.{Pass, Member, Corrupt}

-- the state with this ring, this amount in the till and this number of grants
abbrev pub till_state : Ring → ℕ → ℕ → State ℕ
till_state r amount grants = record { ring = r; content = amount; grants = grants }

-- the machine that a call names
abbrev pub machine_of : Op → ℕ
machine_of (Pass machine order) = machine
machine_of (Member machine order left) = machine
machine_of (Corrupt machine value) = machine
