use Rattle.std.proofs.Common.{sym, ◌∙◌, arith}
use Rattle.journal.proofs.Groupings.{whole_more_open, whole_more_closed}
use Rattle.journal.proofs.histories.whole_length.Goals as goal
use Rattle.journal.proofs.histories.whole_length.Goals.{then-not-is_open, else-not-is_open}

pub loop-i-preserved : goal.loop-i-preserved
loop-i-preserved c =
    let within = c.loop-i.invariant.0 in
    elim c.if-not-is_open.branch [
      | then-not-is_open w ↦ rw w.length-is (omega arith, whole_more_closed c.args.calls.now c.loop-i.i _ c.loop-i-test.true (sym c.is_open.ensures ∙ w.if-not-is_open.true))
      | else-not-is_open w ↦ rw w.length-is (omega arith, c.loop-i.invariant.1 ∙ sym (whole_more_open c.args.calls.now c.loop-i.i _ c.loop-i-test.true (sym c.is_open.ensures ∙ w.if-not-is_open.false)))
    ]
