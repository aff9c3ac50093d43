use Rattle.std.proofs.Common.{◌-◌, ◌*◌}
use Rattle.machine_masks.proofs.Sets.{AreOut}
use Rattle.machine_masks.proofs.searches.last.Given as goal

abbrev pub invariant-loop-above : goal.invariant-loop-above
invariant-loop-above l = AreOut l.words (64 * (l.count - l.above)) l.end
