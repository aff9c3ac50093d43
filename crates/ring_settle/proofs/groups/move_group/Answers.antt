use Rattle.std.proofs.Common.{arith}
use Rattle.ring_settle.proofs.GroupSteps.{moves_start, can_turn, moves_turn, moves_end}
use Rattle.ring_settle.proofs.groups.move_group.Goals as goal

pub loop-turn-init : goal.loop-turn-init
loop-turn-init c = moves_start c.args.state.now c.args.machines.now c.requires

pub move_machine-requires-clause-machine : goal.move_machine-requires-clause-machine
move_machine-requires-clause-machine c =
    (can_turn c.args.state.now c.args.machines.now c.loop-turn.state c.loop-turn.turn c.machine_in_turn.result c.requires c.loop-turn.invariant
    c.loop-turn-test.true c.machine_in_turn.ensures).below

pub move_machine-requires-clause-privileged : goal.move_machine-requires-clause-privileged
move_machine-requires-clause-privileged c =
    (can_turn c.args.state.now c.args.machines.now c.loop-turn.state c.loop-turn.turn c.machine_in_turn.result c.requires c.loop-turn.invariant
    c.loop-turn-test.true c.machine_in_turn.ensures).privileged

pub loop-turn-preserved : goal.loop-turn-preserved
loop-turn-preserved c =
    moves_turn c.args.state.now c.args.machines.now c.loop-turn.state c.move_machine.new.self c.loop-turn.turn c.machine_in_turn.result c.loop-turn.invariant
    c.loop-turn-test.true c.machine_in_turn.ensures c.move_machine.ensures.is c.move_machine.ensures.descent

pub returns-clause-group : goal.returns-clause-group
returns-clause-group c =
    moves_end c.args.state.now c.args.machines.now c.loop-turn.state c.loop-turn.turn c.requires c.loop-turn.invariant c.loop-turn-test.false

pub returns-clause-descent : goal.returns-clause-descent
returns-clause-descent c = let f = c.loop-turn.invariant.falls in omega arith
