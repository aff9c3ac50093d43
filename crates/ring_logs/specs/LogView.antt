-- The client's log as contracts see it.
use Rattle.std.specs.Prelude.{ℕ, List}
use Rattle.ring_model.specs.declared.events.Entry.{Entry}

-- a client's number, and its entries
pub record LogView : Type 0 where
  pub number : ℕ
  pub log : List Entry
