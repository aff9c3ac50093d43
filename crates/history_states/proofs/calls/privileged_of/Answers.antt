use Rattle.std.proofs.Common.{◌≡◌, true, false, length, sym, ◌∙◌, arith}
use Rattle.ring_model.specs.Ring.{is_privileged}
use Rattle.history_states.proofs.Parts.{passes_more, fails_more, passes_all}
use Rattle.history_states.proofs.calls.privileged_of.Goals as goal
use Rattle.history_states.proofs.calls.privileged_of.Goals.{then-is_privileged+in_ok-push, else-is_privileged}

pub loop-machine-preserved : goal.loop-machine-preserved
loop-machine-preserved c =
    let s = c.args.values.now in
    let i = c.loop-machine.machine in
    let lt = c.loop-machine-test.true in
    elim c.if-is_privileged.branch [
      | then-is_privileged+in_ok-push w ↦ passes_more (is_privileged s) (length s) i c.loop-machine.found.items c.if-is_privileged.found.items lt (sym c.is_privileged.ensures ∙ w.if-is_privileged.true) c.loop-machine.invariant (rw w.found-is w.in_ok-push.ensures.items)
      | else-is_privileged w ↦ rw w.found-is (fails_more (is_privileged s) (length s) i c.loop-machine.found.items lt (sym c.is_privileged.ensures ∙ w.if-is_privileged.false) c.loop-machine.invariant)
    ]

pub returns : goal.returns
returns c = passes_all (is_privileged c.args.values.now) (length c.args.values.now) c.loop-machine.machine c.loop-machine.found.items c.loop-machine-test.false c.loop-machine.invariant
