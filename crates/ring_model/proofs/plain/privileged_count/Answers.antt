use Rattle.std.proofs.Common.{◌≡◌, true, false, sym, ◌∙◌, arith}
use Rattle.ring_model.specs.Numbers.{bit}
use Rattle.ring_model.specs.Ring.{is_privileged}
use Rattle.ring_model.proofs.Below.{bit_at}
use Rattle.ring_model.proofs.PlainLoops.{count_more}
use Rattle.ring_model.proofs.plain.privileged_count.Goals as goal
use Rattle.ring_model.proofs.plain.privileged_count.Goals.{then-is_privileged, else-is_privileged}

pub loop-machine-preserved : goal.loop-machine-preserved
loop-machine-preserved c =
    let more = count_more (is_privileged c.args.values.now) c.loop-machine.machine in
    elim c.if-is_privileged.branch [
      | then-is_privileged w ↦
          let b : bit (is_privileged c.args.values.now c.loop-machine.machine) ≡ 1 = bit_at _ true (sym c.is_privileged.ensures ∙ w.if-is_privileged.true) in
          record { count = omega arith; small = omega arith }
      | else-is_privileged w ↦
          let b : bit (is_privileged c.args.values.now c.loop-machine.machine) ≡ 0 = bit_at _ false (sym c.is_privileged.ensures ∙ w.if-is_privileged.false) in
          record { count = omega arith; small = omega arith }
    ]
