use Rattle.std.proofs.Common.{◌≡◌, ◌≤◌, take}
use Rattle.journal.specs.ContentAfter.{whole}
use Rattle.journal.proofs.histories.whole_length.Given as goal

abbrev pub invariant-loop-i : goal.invariant-loop-i
invariant-loop-i l = (l.length ≤ l.i) × (take l.length l.calls ≡ whole (take l.i l.calls))
