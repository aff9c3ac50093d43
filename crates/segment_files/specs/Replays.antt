-- How a history leaves its ring.
use Rattle.std.specs.Prelude.{◌≡◌, ℕ, ◌+◌, ◌<◌, ◌==◌, cond, List}
use Rattle.ring_model.specs.Ring.{Ring, ring_with}
use Rattle.ring_model.specs.History.{opening, after, IsLegal}
use Rattle.ring_model.specs.Resources.{till, add_order}
use Rattle.ring_model.specs.Surveys.{calm}
use Rattle.ring_model.specs.declared.events.Event.{Event}
use Rattle.saved_history.specs.Content.{Block}
use Rattle.ring_check.specs.declared.sums.Tally.{Tally}
use Rattle.ring_check.specs.Legal.{history}
use Rattle.ring_model.specs.declared.bases.Base.{Base}
use Rattle.segment_files.specs.declared.replay.Left.{Left}

-- the ring and the till as a history from this ring leaves them, and its calm
pub record IsLeftBy (r : Ring) (h : List Event) (left : Left) : Type 0 where
  pub ring : (after till (opening r 0) h).ring ≡ ring_with r.k left.values.items
  pub amount : (after till (opening r 0) h).content ≡ left.amount
  pub calm : left.calm ≡ calm h

-- a block with a legal history, of a ring with values
pub record IsReplayed (k : Block) : Type 0 where
  pub positive : 0 < k.k
  pub legal : IsLegal till (opening (ring_with k.k k.start) 0) (history k)

-- the base after a segment of which these are the sums
abbrev pub base_from : Base → ℕ → Tally → Left → Base
base_from b events tally left = record {
  events = b.events + events;
  grants = b.grants + tally.granted;
  amount = add_order b.amount left.amount;
  calm = cond (tally.corrupted == 0) (b.calm + left.calm) left.calm;
}
