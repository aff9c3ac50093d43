use Rattle.std.proofs.Common.{◌≡◌, ◌+◌, ◌≤◌, List, length}
use Rattle.ring_model.specs.Ring.{rest}
use Rattle.ring_model.specs.RepairLaws.{passes_left}
use Rattle.ring_model.specs.declared.events.Event.{Event}
use Rattle.ring_book.specs.Repairs.{IsRepairedBy}
use Rattle.ring_book.proofs.books.Book.settle.Given as goal

abbrev pub invariant-loop-self : goal.invariant-loop-self
invariant-loop-self g l = record {
  made : (passes : List Event) × IsRepairedBy g.R.Resource.works l.fn.self l.self l.seat passes × (length passes ≡ l.passes);
  few : l.passes + rest l.self.now.ring ≤ rest l.fn.self.now.ring;
  count : l.passes + passes_left l.self.now.ring ≡ passes_left l.fn.self.now.ring;
  size : length l.self.now.ring.values ≡ length l.fn.self.now.ring.values;
  fits : passes_left l.fn.self.now.ring ≤ l.fn.self.room → passes_left l.self.now.ring ≤ l.self.room;
  room : rest l.fn.self.now.ring ≤ l.fn.self.room → rest l.self.now.ring ≤ l.self.room;
}

abbrev pub decreases-loop-self : goal.decreases-loop-self
decreases-loop-self g l = rest l.self.now.ring
