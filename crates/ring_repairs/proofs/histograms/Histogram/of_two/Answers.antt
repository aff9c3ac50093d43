use Rattle.std.proofs.Common.{◌≡◌, ℕ, ◌+◌, List, [], ◌∷◌, length, sym, ◌∙◌, ap, arith}
use Rattle.ring_repairs.specs.Histograms.{counted}
use Rattle.ring_repairs.proofs.Counting.{counted_two}
use Rattle.ring_repairs.proofs.histograms.Histogram.of_two.Goals as goal

pub invariant_of-result : goal.invariant_of-result
invariant_of-result c =
    let items : c.in_ok-counts.counts.items ≡ c.args.zeros ∷ c.args.ones ∷ [] = c.in_ok-counts.ensures.items in
    let all : counted c.in_ok-counts.counts.items ≡ c.args.zeros + c.args.ones = ap counted items ∙ counted_two c.args.zeros c.args.ones in
    let long = ap (λ (x : List ℕ). length x) items in
    (record { few = omega arith; short = omega arith }, sym all)
