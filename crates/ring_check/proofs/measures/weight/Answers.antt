use Rattle.std.proofs.Common.{◌≡◌, ◌-◌, sym, ◌∙◌, arith, length}
use Rattle.ring_model.specs.Ring.{weight_at}
use Rattle.ring_check.proofs.Measuring.{sum_more, weight_on, weight_off}
use Rattle.ring_check.proofs.measures.weight.Goals as goal
use Rattle.ring_check.proofs.measures.weight.Goals.{then-is_privileged, else-is_privileged}

pub loop-i-preserved : goal.loop-i-preserved
loop-i-preserved c =
    let more = sum_more (weight_at c.args.values.now) c.loop-i.i in
    elim c.if-is_privileged.branch [
      | then-is_privileged w ↦
          let b : weight_at c.args.values.now c.loop-i.i ≡ length c.args.values.now - c.loop-i.i =
          weight_on c.args.values.now c.loop-i.i c.loop-i.auto.i (sym c.is_privileged.ensures ∙ w.if-is_privileged.true) in
          (omega arith, omega arith)
      | else-is_privileged w ↦
          let b : weight_at c.args.values.now c.loop-i.i ≡ 0 = weight_off c.args.values.now c.loop-i.i (sym c.is_privileged.ensures ∙ w.if-is_privileged.false) in
          (omega arith, omega arith)
    ]
