use Rattle.std.proofs.Common.{◌≡◌, ◌≤◌, List, length, ap, arith}
use Rattle.ring_repairs.specs.Histograms.{counted, summed}
use Rattle.ring_repairs.proofs.Counting.{summed_small}
use Rattle.ring_repairs.proofs.histograms.Histogram.mean_hundredths.Goals as goal

pub overflow_mul-result : goal.overflow_mul-result
overflow_mul-result c =
    let h = c.self.inside.counts.items in
    let small = summed_small h c.self.invariant.0.few c.self.invariant.0.short in
    let items = c.as_slice.ensures.value in
    let is = c.summed.ensures in
    let same : summed c.as_slice.result.now ≡ summed h = ap summed items in
    omega arith
