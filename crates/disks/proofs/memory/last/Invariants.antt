use Rattle.std.proofs.Common.{◌≡◌, drop}
use Rattle.disks.specs.Held.{Nothing}
use Rattle.disks.specs.Entries.{thing_in, found}
use Rattle.disks.proofs.memory.last.Given as goal

abbrev pub invariant-loop-entry : goal.invariant-loop-entry
invariant-loop-entry l = found (thing_in l.last) (drop l.entry-index l.entries) l.name ≡ found Nothing l.entries l.name
