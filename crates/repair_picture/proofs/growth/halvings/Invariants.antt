use Rattle.std.proofs.Common.{◌≡◌, ◌+◌, ◌-◌}
use Rattle.repair_picture.specs.Growth.{halvings}
use Rattle.repair_picture.proofs.growth.halvings.Given as goal

abbrev pub invariant-loop-turn : goal.invariant-loop-turn
invariant-loop-turn l = l.turn + halvings (64 - l.turn) l.left ≡ halvings 64 l.number
