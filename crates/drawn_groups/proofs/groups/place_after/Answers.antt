use Rattle.std.proofs.Common.{◌+◌, refl}
use Rattle.drawn_groups.specs.declared.groups.Place.{Place}
use Rattle.drawn_groups.proofs.Choices.{left_later}
use Rattle.drawn_groups.proofs.groups.place_after.Goals as goal

pub returns-clause-left : goal.returns-clause-left
returns-clause-left c =
    let p : Place = c.args.place in
    let q : Place = record { count = p.count; least = p.least; turn = p.turn + 1 } in
    left_later c.args.machines.now p q refl refl
