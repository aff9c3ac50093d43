use Rattle.drawn_groups.proofs.Blocks.{ArePut}
use Rattle.drawn_groups.proofs.drawing.put_members.Given as goal

abbrev pub invariant-loop-turn : goal.invariant-loop-turn
invariant-loop-turn l = ArePut l.chosen l.first l.count l.turn l.left l.initial.machines l.machines
