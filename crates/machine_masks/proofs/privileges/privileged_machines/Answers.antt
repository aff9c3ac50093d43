use Rattle.std.proofs.Common.{◌≡◌, length, ◌∙◌, ap, arith}
use Rattle.ring_state.specs.Sizes.{Size}
use Rattle.machine_masks.proofs.Marks.{none_marked, one_marked, whole_marked}
use Rattle.machine_masks.proofs.privileges.privileged_machines.Goals as goal

pub loop-machine-init : goal.loop-machine-init
loop-machine-init c = none_marked c.args.ring.now.values c.new-privileged.result c.new-privileged.ensures

pub loop-machine-preserved : goal.loop-machine-preserved
loop-machine-preserved c =
    one_marked c.args.ring.now.values c.loop-machine.privileged c.set.new.self c.loop-machine.machine c.loop-machine.invariant
    (c.set.ensures.at ∙ c.is_privileged.ensures) c.set.ensures.others

pub returns : goal.returns
returns c =
    let s = c.args.ring.now.values in
    let n : c.n-machine-end.result ≡ length s = c.n-machine-end.ensures.is ∙ ap (λ (x : Size). x.n) c.params.ensures.is in
    whole_marked s c.loop-machine.privileged c.loop-machine.machine c.loop-machine.invariant (omega arith)
