use Rattle.std.proofs.Common.{◌≡◌, ℕ, List, length, sym, ◌∙◌, ap, arith}
use Rattle.std.proofs.Math.ListN.{replicate}
use Rattle.ring_repairs.proofs.Counting.{entry, counted_none, zero_at, zeros_long}
use Rattle.ring_repairs.proofs.histograms.Histogram.new.Goals as goal

pub invariant_of-result : goal.invariant_of-result
invariant_of-result c =
    let items : c.in_ok-counts.counts.items ≡ replicate c.args.numbers 0 = c.in_ok-counts.ensures.items_if_clones_equal (λ y e. e) in
    let none = counted_none c.in_ok-counts.counts.items (λ v l. ap (λ (x : List ℕ). entry x v) items ∙ zero_at c.args.numbers v) in
    let long = ap (λ (x : List ℕ). length x) items ∙ zeros_long c.args.numbers in
    (record { few = omega arith; short = omega arith }, sym none)

pub returns : goal.returns
returns c =
    let items : c.in_ok-counts.counts.items ≡ replicate c.args.numbers 0 = c.in_ok-counts.ensures.items_if_clones_equal (λ y e. e) in
    record {
      numbers = ap (λ (x : List ℕ). length x) items ∙ zeros_long c.args.numbers;
      none = λ v. ap (λ (x : List ℕ). entry x v) items ∙ zero_at c.args.numbers v;
    }
