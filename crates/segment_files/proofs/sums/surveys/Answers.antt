use Rattle.std.proofs.Common.{length, arith}
use Rattle.saved_history.specs.Content.{Block, block_of}
use Rattle.segment_files.proofs.Totals.{adds_more}
use Rattle.segment_files.proofs.sums.surveys.Goals as goal

pub loop-ring-preserved : goal.loop-ring-preserved
loop-ring-preserved c =
    let l = c.loop-ring in
    let x = c.ring-item.result in
    rw c.saturating_add-sum.ensures (adds_more block_of (λ (k : Block). length k.surveys) c.args.rings.now l.ring-index l.sum x c.len.result c.loop-ring-test.true c.ring-item.is (omega (arith, c.len.ensures, c.ring-item.result.surveys.ok.0)) l.invariant)
