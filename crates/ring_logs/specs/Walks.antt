-- A client's log that is held against a history.
use Rattle.std.specs.Prelude.{ℕ, List}
use Rattle.ring_model.specs.declared.events.Event.{Event}
use Rattle.ring_model.specs.declared.events.Entry.{Entry}
use Rattle.ring_logs.specs.LogView.{LogView}
use Rattle.ring_logs.specs.Fronts.{IsPlaced}

-- a history, a client, and its log
pub record Walked : Type 0 where
  pub history : List Event
  pub number : ℕ
  pub log : List Entry

-- a client's log beside a history
abbrev pub walk_of : List Event → LogView → Walked
walk_of history s = record { history = history; number = s.number; log = s.log }

-- the client's log is placed along the history, with as many receipts as the client has calls
abbrev pub IsPlacedWalk : Walked → Type 0
IsPlacedWalk w = IsPlaced w.history w.number w.log
