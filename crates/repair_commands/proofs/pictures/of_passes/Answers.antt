use Rattle.repair_commands.proofs.Reporting.{passes_more}
use Rattle.repair_commands.proofs.pictures.of_passes.Goals as goal

pub loop-row-preserved : goal.loop-row-preserved
loop-row-preserved c =
    passes_more c.args.rows.now c.loop-row.row-index _ c.loop-row.passes.items _ c.loop-row-test.true c.loop-row.invariant c.in_ok-add_row.ensures
