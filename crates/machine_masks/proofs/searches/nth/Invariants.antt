use Rattle.std.proofs.Common.{◌≡◌, ◌+◌, ◌*◌}
use Rattle.machine_masks.specs.Members.{members_below}
use Rattle.machine_masks.proofs.searches.nth.Given as goal

abbrev pub invariant-loop-w : goal.invariant-loop-w
invariant-loop-w l = members_below l.words (64 * l.w) + l.left ≡ l.place
