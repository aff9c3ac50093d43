-- The group pass as contracts see it.
use Rattle.std.specs.Prelude.{◌≡◌, ◌++◌, ◌<◌, ℕ, List, length, true, false}
use Rattle.ring_model.specs.Ring.{is_privileged}
use Rattle.ring_model.specs.History.{Works, after, IsLegal}
use Rattle.ring_model.specs.Groups.{has, GroupMove, move_order, IsBlockOf}
use Rattle.ring_model.specs.declared.events.Event.{Event}
use Rattle.ring_book.specs.BookView.{BookView}
use Rattle.ring_book.specs.declared.books.groups.GroupReceipt.{GroupReceipt}

-- the least machine of a group that is not privileged
pub record IsLeastWithout (s machines : List ℕ) (m : ℕ) : Type 0 where
  pub member : has machines m ≡ true
  pub without : is_privileged s m ≡ false
  pub least : (j : ℕ) → has machines j ≡ true → j < m → is_privileged s j ≡ true

-- A group has moved: the history has grown by one block, which is legal and leads to the state now,
-- and the values have made the group move.
pub record HasMoved {C : Type 0} (w : Works C) (old new : BookView C) (seat order : ℕ)
    (machines : List ℕ) : Type 0 where
  pub events : List Event
  pub block : IsBlockOf (length old.now.ring.values) seat order (move_order machines) events
  pub legal : IsLegal w old.now events
  pub grown : new.history ≡ old.history ++ events
  pub now : new.now ≡ after w old.now events
  pub moves : GroupMove old.now.ring machines new.now.ring
  pub same_start : new.start ≡ old.start

-- The receipt has the position of the block and its length.
pub record IsGroupRecorded {C : Type 0} (w : Works C) (old new : BookView C) (seat order : ℕ)
    (machines : List ℕ) (r : GroupReceipt) : Type 0 where
  pub moved : HasMoved w old new seat order machines
  pub first : r.first ≡ length old.history
  pub count : r.count ≡ length machines
