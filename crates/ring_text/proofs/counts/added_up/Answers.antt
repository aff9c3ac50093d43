use Rattle.std.proofs.Common.{◌≡◌, ◌∙◌, get_or, ap, arith}
use Rattle.ring_text.specs.declared.counts.Counts.{Counts}
use Rattle.one_thread_ring.specs.declared.counts.Totals.{Totals}
use Rattle.ring_text.specs.Report.{counts_of}
use Rattle.ring_text.proofs.Sums.{ring_surveys_within, totals_next}
use Rattle.ring_text.proofs.counts.added_up.Goals as goal

pub add-requires-clause-surveys : goal.add-requires-clause-surveys
add-requires-clause-surveys c =
    let within = ring_surveys_within c.args.rings.now c.loop-ring.ring-index c.ring-item.result c.loop-ring-test.true in
    let so_far = ap (λ (t : Totals). t.surveys) c.loop-ring.invariant.totals in
    let counted = ap (λ (x : Counts). x.surveys) c.counts_of.ensures.is in
    let here = ap (λ r. (counts_of r).surveys) c.ring-item.is in
    omega (arith, within, so_far, counted, here, c.requires.few)

pub loop-ring-preserved : goal.loop-ring-preserved
loop-ring-preserved c =
    let counted : c.counts_of.result ≡ counts_of (get_or c.args.rings.now c.loop-ring.ring-index c.ring-item.result) = c.counts_of.ensures.is ∙ ap counts_of c.ring-item.is in
    let events = ap (λ (t : Totals). t.events) c.add.ensures in
    let granted = ap (λ (t : Totals). t.granted) c.add.ensures in
    record {
      totals = c.add.ensures ∙ totals_next c.args.rings.now c.loop-ring.ring-index c.ring-item.result c.loop-ring-test.true c.loop-ring.all c.counts_of.result c.loop-ring.invariant.totals counted;
      few = omega (arith, events, c.loop-ring.invariant.few, c.counts_of.ensures.few);
      granted = omega (arith, events, granted, c.loop-ring.invariant.granted, c.counts_of.ensures.granted);
    }
