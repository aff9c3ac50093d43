use Rattle.std.proofs.Common.{take, sym, ◌∙◌, arith}
use Rattle.ring_model.proofs.Orders.{least_few}
use Rattle.drawn_groups.proofs.Choices.{left_head}
use Rattle.drawn_groups.proofs.groups.next_member.Goals as goal

pub machine_in_turn-requires-clause-few : goal.machine_in_turn-requires-clause-few
machine_in_turn-requires-clause-few c =
    let few = least_few (take c.args.place.count c.args.machines.now) in
    let least' = c.requires.is.least in
    omega arith

pub returns : goal.returns
returns c = c.machine_in_turn.ensures ∙ sym (left_head c.args.machines.now c.args.place)
