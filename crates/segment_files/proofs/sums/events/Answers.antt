use Rattle.std.proofs.Common.{refl}
use Rattle.segment_files.specs.Files.{Place}
use Rattle.segment_files.specs.Chain.{place_in}
use Rattle.segment_files.proofs.Totals.{adds_more}
use Rattle.segment_files.proofs.sums.events.Goals as goal

pub loop-place-preserved : goal.loop-place-preserved
loop-place-preserved c =
    let l = c.loop-place in
    let x = c.place-item.result in
    rw c.saturating_add-sum.ensures (adds_more place_in (λ (p : Place). p.base.events) c.args.places.now l.place-index l.sum x c.place-item.result.base.events c.loop-place-test.true c.place-item.is refl l.invariant)
