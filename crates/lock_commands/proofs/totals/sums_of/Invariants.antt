use Rattle.std.proofs.Common.{◌≡◌, take}
use Rattle.lock_commands.specs.Totals.{sums_of}
use Rattle.lock_commands.proofs.totals.sums_of.Given as goal

abbrev pub invariant-loop-lock : goal.invariant-loop-lock
invariant-loop-lock l = l.all ≡ sums_of (take l.lock l.locks)
