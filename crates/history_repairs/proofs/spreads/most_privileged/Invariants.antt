use Rattle.std.proofs.Common.{◌≡◌, take}
use Rattle.history_repairs.specs.Lines.{most_privileged}
use Rattle.history_repairs.proofs.spreads.most_privileged.Given as goal

abbrev pub invariant-loop-repair : goal.invariant-loop-repair
invariant-loop-repair l = l.most ≡ most_privileged (take l.repair-index l.repairs)
