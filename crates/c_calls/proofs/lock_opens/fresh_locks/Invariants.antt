use Rattle.std.proofs.Common.{◌≡◌, length}
use Rattle.std.specs.List.{All}
use Rattle.c_calls.specs.Desks.{IsFree}
use Rattle.c_calls.proofs.lock_opens.fresh_locks.Given as goal

abbrev pub invariant-loop-number : goal.invariant-loop-number
invariant-loop-number l = record {
  many : length l.locks ≡ l.number;
  free : All (IsFree l.machines) l.locks;
}
