use Rattle.std.proofs.Common.{◌≡◌, ◌*◌, get_or}
use Rattle.ring_model.specs.Numbers.{sum_below}
use Rattle.ring_repairs.proofs.histograms.summed.Given as goal

abbrev pub invariant-loop-number : goal.invariant-loop-number
invariant-loop-number l = l.sum ≡ sum_below (λ v. v * get_or l.counts v 0) l.number
