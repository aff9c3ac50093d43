use Rattle.std.proofs.Common.{◌≡◌, ◌+◌, ◌*◌, ◌≤◌, get_or}
use Rattle.ring_model.specs.Numbers.{sum_below}
use Rattle.repair_picture.proofs.spread.counted_in.Given as goal

abbrev pub invariant-loop-place : goal.invariant-loop-place
invariant-loop-place l = record {
  is : l.sum ≡ sum_below (λ j. get_or l.counts (l.from + j) 0) l.place;
  most : l.sum ≤ 18446744073709551616 * l.place;
}
