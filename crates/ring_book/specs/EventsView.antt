-- The list of events as contracts see it.
use Rattle.std.specs.Prelude.{ℕ, List}
use Rattle.ring_model.specs.declared.events.Event.{Event}

-- the events, and how many more can be added without asking for memory
pub record EventsView : Type 0 where
  pub list : List Event
  pub room : ℕ
