use Rattle.std.proofs.Common.{◌≡◌, ◌-◌, length, sym, ◌∙◌, arith}
use Rattle.ring_model.specs.Ring.{weight_at}
use Rattle.ring_model.proofs.PlainLoops.{sum_more, weight_on, weight_off}
use Rattle.ring_model.proofs.plain.weight.Goals as goal
use Rattle.ring_model.proofs.plain.weight.Goals.{then-is_privileged, else-is_privileged}

pub loop-machine-preserved : goal.loop-machine-preserved
loop-machine-preserved c =
    let more = sum_more (weight_at c.args.values.now) c.loop-machine.machine in
    elim c.if-is_privileged.branch [
      | then-is_privileged w ↦
          let b : weight_at c.args.values.now c.loop-machine.machine ≡ length c.args.values.now - c.loop-machine.machine =
          weight_on c.args.values.now c.loop-machine.machine c.loop-machine.auto.machine (sym c.is_privileged.ensures ∙ w.if-is_privileged.true) in
          record { sum = omega arith; small = omega arith }
      | else-is_privileged w ↦
          let b : weight_at c.args.values.now c.loop-machine.machine ≡ 0 =
          weight_off c.args.values.now c.loop-machine.machine (sym c.is_privileged.ensures ∙ w.if-is_privileged.false) in
          record { sum = omega arith; small = omega arith }
    ]
