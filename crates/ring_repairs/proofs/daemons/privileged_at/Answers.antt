use Rattle.std.proofs.Common.{arith}
use Rattle.machine_masks.proofs.Marks.{members_marked}
use Rattle.ring_repairs.proofs.Marks.{nth_marked}
use Rattle.ring_repairs.proofs.daemons.privileged_at.Goals as goal

pub nth-requires : goal.nth-requires
nth-requires c =
    let count = members_marked c.args.ring.now.values c.args.privileged.now c.requires.marked c.params.ensures.ring.most_machines in
    let few = c.requires.place in
    omega arith

pub returns : goal.returns
returns c =
    nth_marked c.args.ring.now.values c.args.privileged.now c.args.place c.nth.result c.requires.marked c.params.ensures.ring.most_machines c.nth.ensures.machine
    c.nth.ensures.member c.nth.ensures.place
