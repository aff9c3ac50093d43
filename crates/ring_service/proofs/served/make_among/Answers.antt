use Rattle.std.proofs.Common.{◌≡◌, ◌<◌, length, get_or, arith}
use Rattle.std.proofs.lemmas.Grind.{common_steps}
use Rattle.ring_service.specs.Commands.{seen, ring_of}
use Rattle.ring_service.proofs.Placing.{placed_turn}
use Rattle.ring_service.proofs.served.make_among.Goals as goal

pub returns-clause-turn : goal.returns-clause-turn
returns-clause-turn c =
    let e = c.ring_of-at.ensures in
    let rings = c.args.rings.now.items in
    let d = c.index_mut.result.now in
    let l : ring_of (seen c.args.command.now) < length rings = grind (arith, common_steps) in
    let is : get_or rings (ring_of (seen c.args.command.now)) d ≡ d = grind (arith, common_steps) in
    rw e (placed_turn rings d c.make.new.ring (seen c.args.command.now) c.make.result l is c.make.ensures.turn)
