use Rattle.std.proofs.Common.{◌≡◌, ◌<◌, ℕ, Some, None}
use Rattle.std.specs.Prelude.{slice_get}
use Rattle.held_locks.specs.Kept.{LockView, locks_of}
use Rattle.lock_names.specs.Kept.{top_limit}
use Rattle.lock_names.proofs.Begins.{total_before}
use Rattle.lock_names.proofs.starting.grants_of.Given as goal

abbrev pub invariant-loop-lock : goal.invariant-loop-lock
invariant-loop-lock l = record {
  sum : l.sum ≡ total_before l.lock (locks_of l.locks);
  few : l.sum < top_limit;
  free : (i : ℕ) (v : LockView) → i < l.lock → slice_get l.locks i ≡ Some v → v.holder ≡ None;
}
