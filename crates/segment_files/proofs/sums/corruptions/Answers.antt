use Rattle.ring_model.specs.Surveys.{corrupted_count}
use Rattle.saved_history.specs.Content.{Block, block_of}
use Rattle.ring_check.specs.Legal.{history}
use Rattle.segment_files.proofs.Totals.{adds_more}
use Rattle.segment_files.proofs.sums.corruptions.Goals as goal

pub loop-ring-preserved : goal.loop-ring-preserved
loop-ring-preserved c =
    let l = c.loop-ring in
    let x = c.ring-item.result in
    rw c.saturating_add-sum.ensures (adds_more block_of (λ (k : Block). corrupted_count (history k)) c.args.rings.now l.ring-index l.sum x c.count_events.result.corrupted c.loop-ring-test.true c.ring-item.is (rw c.deref.ensures.value at c.count_events.ensures.corrupted) l.invariant)
