use Rattle.std.proofs.Common.{◌≡◌, sym, ◌∙◌, ap, arith}
use Rattle.ring_model.specs.Numbers.{bit}
use Rattle.ring_model.specs.Limits.{machine_limit}
use Rattle.ring_model.proofs.Below.{bit_le}
use Rattle.machine_masks.specs.Members.{is_in}
use Rattle.machine_masks.proofs.Ones.{from_bit}
use Rattle.machine_masks.proofs.Sets.{members_le, members_changed, one_counts}
use Rattle.machine_masks.proofs.machines.Machines.set.Goals as goal

pub overflow_add-self : goal.overflow_add-self
overflow_add-self c =
    let few = members_le c.self.inside.words machine_limit in
    let is = c.self.invariant in
    let on = from_bit c.args.on c.from.result c.from.ensures in
    let one = bit_le c.args.on in
    record { fits = omega arith }

pub overflow_sub-self : goal.overflow_sub-self
overflow_sub-self c =
    let is = c.self.invariant in
    let was : c.from-2.result ≡ bit (is_in c.self.inside.words c.args.machine) =
    from_bit c.put-was_in.result c.from-2.result c.from-2.ensures ∙ ap bit c.put-was_in.ensures.was in
    let one = one_counts c.self.inside.words c.args.machine machine_limit c.requires in
    omega arith

pub invariant_of-self : goal.invariant_of-self
invariant_of-self c =
    let is = c.self.invariant in
    let was : c.from-2.result ≡ bit (is_in c.self.inside.words c.args.machine) =
    from_bit c.put-was_in.result c.from-2.result c.from-2.ensures ∙ ap bit c.put-was_in.ensures.was in
    let on : c.from.result ≡ bit (is_in c.put-was_in.new.words c.args.machine) =
    from_bit c.args.on c.from.result c.from.ensures ∙ ap bit (sym c.put-was_in.ensures.at) in
    let one = one_counts c.self.inside.words c.args.machine machine_limit c.requires in
    let all = members_changed c.self.inside.words c.put-was_in.new.words c.args.machine machine_limit c.requires c.put-was_in.ensures.others in
    omega arith
