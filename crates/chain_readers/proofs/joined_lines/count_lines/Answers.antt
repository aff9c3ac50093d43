use Rattle.std.proofs.Common.{length, refl}
use Rattle.saved_history.specs.Content.{Block, block_of}
use Rattle.ring_check.specs.Lines.{block_lines}
use Rattle.segment_files.proofs.Totals.{adds_more}
use Rattle.chain_readers.proofs.joined_lines.count_lines.Goals as goal

pub loop-ring-preserved : goal.loop-ring-preserved
loop-ring-preserved c =
    let l = c.loop-ring in
    rw c.count_more-lines.ensures (adds_more block_of (λ (k : Block). length (block_lines k)) c.args.rings.now l.ring-index l.lines c.ring-item.result (length (block_lines (block_of c.ring-item.result))) c.loop-ring-test.true c.ring-item.is refl l.invariant)
