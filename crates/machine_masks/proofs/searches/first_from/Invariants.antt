use Rattle.std.proofs.Common.{◌*◌}
use Rattle.machine_masks.proofs.Sets.{AreOut}
use Rattle.machine_masks.proofs.searches.first_from.Given as goal

abbrev pub invariant-loop-w : goal.invariant-loop-w
invariant-loop-w l = AreOut l.words l.from (64 * l.w)
