use Rattle.std.proofs.Common.{rules}
use Rattle.ring_model.proofs.Moves.{closed}
use Rattle.ring_model.proofs.Settled.{rest_falls}
use Rattle.ring_state.specs.Sizes.{IsRingState}
use Rattle.ring_state.proofs.states.RingState.move_machine.Goals as goal

pub returns-clause-is : goal.returns-clause-is
returns-clause-is c = search rules

pub returns-clause-closure : goal.returns-clause-closure
returns-clause-closure c =
    let ring : IsRingState c.args.self.now = search rules in
    rw (returns-clause-is c) (closed c.args.self.now c.args.i ring.ring c.requires.machine c.requires.privileged)

pub returns-clause-descent : goal.returns-clause-descent
returns-clause-descent c =
    let ring : IsRingState c.args.self.now = search rules in
    rw (returns-clause-is c) (rest_falls c.args.self.now c.args.i ring.ring c.requires.machine c.requires.privileged)
