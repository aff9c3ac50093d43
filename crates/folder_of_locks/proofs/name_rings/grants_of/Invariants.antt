use Rattle.std.proofs.Common.{◌≡◌, ◌<◌}
use Rattle.held_locks.specs.Kept.{locks_of}
use Rattle.lock_names.specs.Kept.{top_limit}
use Rattle.lock_names.proofs.Begins.{total_before}
use Rattle.folder_of_locks.proofs.name_rings.grants_of.Given as goal

abbrev pub invariant-loop-lock : goal.invariant-loop-lock
invariant-loop-lock l = record {
  sum : l.sum ≡ total_before l.lock (locks_of l.locks);
  few : l.sum < top_limit;
}
