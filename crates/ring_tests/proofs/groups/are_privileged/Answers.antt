use Rattle.ring_book.proofs.GroupGrowth.{none_without}
use Rattle.ring_tests.proofs.groups.are_privileged.Goals as goal

pub returns : goal.returns
returns c = λ _. none_without c.args.state.now.values c.args.machines.now c.loop-machine.machine-index c.loop-machine-test.false c.loop-machine.invariant
