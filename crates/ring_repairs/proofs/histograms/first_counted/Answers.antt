use Rattle.std.proofs.Common.{arith}
use Rattle.ring_repairs.proofs.Counting.{counted_none}
use Rattle.ring_repairs.proofs.histograms.first_counted.Goals as goal

pub returns : goal.returns
returns c = counted_none c.args.counts.now (λ v l. c.loop-number.invariant v (omega arith))
