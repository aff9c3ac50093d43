use Rattle.std.proofs.Common.{◌≡◌, ℕ, ◌+◌, ◌≤◌, List, ◌++◌, length, vec_len, vec_capacity}
use Rattle.held_locks.specs.declared.answers.Left.{Left}
use Rattle.held_locks.specs.Kept.{AreKept}
use Rattle.held_locks.specs.Parts.{views_of}
use Rattle.held_locks.specs.Holding.{AreHolders}
use Rattle.held_locks.proofs.Skipping.{IsLeaving}
use Rattle.held_locks.proofs.leaving.leave_each.Given as goal

abbrev pub invariant-loop-place : goal.invariant-loop-place
invariant-loop-place l = record {
  kept : AreKept (views_of l.locks.items) l.waits;
  holders : AreHolders (views_of l.locks.items) l.holds;
  left : (from : ℕ)
      × (said : List Left)
      × (l.left.items ≡ l.fn.left.items ++ said)
      × IsLeaving (views_of l.fn.locks.items) (views_of l.locks.items) l.client l.order l.place-index from said
      × (vec_len l.left ≤ vec_len l.fn.left + from);
  same : length l.locks.items ≡ length l.fn.locks.items;
  capacity : vec_capacity l.left ≡ vec_capacity l.fn.left;
}
