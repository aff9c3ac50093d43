use Rattle.std.proofs.Common.{◌≡◌, ℕ, ◌*◌, length, sym, ◌∙◌, ap, arith}
use Rattle.ring_model.specs.Numbers.{sum_below}
use Rattle.ring_repairs.proofs.Counting.{entry, summed_fits, summed_is}
use Rattle.ring_repairs.proofs.histograms.summed.Goals as goal

pub overflow_mul-sum : goal.overflow_mul-sum
overflow_mul-sum c =
    let fits = summed_fits c.args.counts.now c.loop-number.number c.loop-number-test.true c.requires.total c.requires.numbers in
    omega arith

pub overflow_add-sum : goal.overflow_add-sum
overflow_add-sum c =
    let fits = summed_fits c.args.counts.now c.loop-number.number c.loop-number-test.true c.requires.total c.requires.numbers in
    let is = c.loop-number.invariant in
    omega arith

pub returns : goal.returns
returns c =
    let h = c.args.counts.now in
    let all : c.loop-number.number ≡ length h = omega arith in
    c.loop-number.invariant ∙ ap (sum_below (λ (v : ℕ). v * entry h v)) all ∙ sym (summed_is h)
