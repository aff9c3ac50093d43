use Rattle.std.proofs.Common.{◌≡◌, true, false, sym, ◌∙◌, arith}
use Rattle.ring_model.specs.Numbers.{bit}
use Rattle.ring_model.specs.Ring.{is_privileged}
use Rattle.ring_model.proofs.Below.{bit_at}
use Rattle.ring_check.proofs.Measuring.{count_more}
use Rattle.ring_check.proofs.measures.privileged_count.Goals as goal
use Rattle.ring_check.proofs.measures.privileged_count.Goals.{then-is_privileged, else-is_privileged}

pub loop-i-preserved : goal.loop-i-preserved
loop-i-preserved c =
    let more = count_more (is_privileged c.args.values.now) c.loop-i.i in
    elim c.if-is_privileged.branch [
      | then-is_privileged w ↦
          let b : bit (is_privileged c.args.values.now c.loop-i.i) ≡ 1 = bit_at _ true (sym c.is_privileged.ensures ∙ w.if-is_privileged.true) in
          (omega arith, omega arith)
      | else-is_privileged w ↦
          let b : bit (is_privileged c.args.values.now c.loop-i.i) ≡ 0 = bit_at _ false (sym c.is_privileged.ensures ∙ w.if-is_privileged.false) in
          (omega arith, omega arith)
    ]
