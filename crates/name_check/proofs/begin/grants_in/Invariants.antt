use Rattle.std.proofs.Common.{◌≡◌, take}
use Rattle.name_check.specs.Entries.{grants_in}
use Rattle.name_check.proofs.begin.grants_in.Given as goal

abbrev pub invariant-loop-ring : goal.invariant-loop-ring
invariant-loop-ring l = l.sum ≡ grants_in (take l.ring-index l.rings)
