use Rattle.std.proofs.Common.{◌≡◌, ◌-◌, ◌++◌, length}
use Rattle.name_check.specs.Entries.{fresh_rings}
use Rattle.name_check.proofs.begin.add_rings.Given as goal

abbrev pub invariant-loop-fresh : goal.invariant-loop-fresh
invariant-loop-fresh l = l.rings.items ++ fresh_rings (l.count - length l.rings.items) ≡ l.fn.rings.items ++ fresh_rings (l.count - length l.fn.rings.items)

abbrev pub decreases-loop-fresh : goal.decreases-loop-fresh
decreases-loop-fresh l = l.count - length l.rings.items
