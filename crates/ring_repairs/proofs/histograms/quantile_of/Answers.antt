use Rattle.std.proofs.Common.{◌≡◌, ℕ, ◌+◌, ◌*◌, ◌<◌, ◌≤◌, length, below_more, sym, ◌∙◌, ap, arith}
use Rattle.ring_repairs.specs.Histograms.{counted, counted_below}
use Rattle.ring_repairs.proofs.Counting.{entry, counted_part, counted_more, counted_below_is, product_fits, quantile_there}
use Rattle.ring_repairs.proofs.histograms.quantile_of.Goals as goal

pub overflow_add-below : goal.overflow_add-below
overflow_add-below c =
    let h = c.args.counts.now in
    let part = counted_part h c.loop-number.number c.loop-number-test.true in
    let is = c.loop-number.invariant.is in
    let total = c.requires.total in
    let most = c.requires.most in
    omega arith

pub overflow_mul-whole : goal.overflow_mul-whole
overflow_mul-whole c =
    let h = c.args.counts.now in
    let part = counted_part h c.loop-number.number c.loop-number-test.true in
    let is = c.loop-number.invariant.is in
    let total = c.requires.total in
    let most = c.requires.most in
    let fits = product_fits c.args.whole (c.loop-number.below + entry h c.loop-number.number) c.requires.whole (omega arith) in
    omega arith

pub returns-then-part-total : goal.returns-then-part-total
returns-then-part-total c =
    let h = c.args.counts.now in
    let i : ℕ = c.loop-number.number in
    let more = counted_more h i c.loop-number-test.true in
    let is = c.loop-number.invariant.is in
    let same = counted_below_is h (i + 1) in
    let to : c.loop-number.below + entry h i ≡ counted_below h (i + 1) = omega arith in
    let right = ap (λ (x : ℕ). c.args.whole * x) to in
    let left = ap (λ (x : ℕ). c.args.part * x) c.requires.total in
    let le = c.if-part-total.true in
    record { within = c.loop-number-test.true; enough = omega arith; least = c.loop-number.invariant.few }

pub loop-number-preserved : goal.loop-number-preserved
loop-number-preserved c =
    let h = c.args.counts.now in
    let i : ℕ = c.loop-number.number in
    let more = counted_more h i c.loop-number-test.true in
    let is = c.loop-number.invariant.is in
    let same = counted_below_is h (i + 1) in
    let to : c.loop-number.below + entry h i ≡ counted_below h (i + 1) = omega arith in
    let right = ap (λ (x : ℕ). c.args.whole * x) to in
    let left = ap (λ (x : ℕ). c.args.part * x) c.requires.total in
    let gt = c.if-part-total.false in
    let here : c.args.whole * counted_below h (i + 1) < c.args.part * counted h = omega arith in
    record { is = omega arith; few = below_more _ _ c.loop-number.invariant.few here }

pub returns : goal.returns
returns c =
    quantile_there c.args.counts.now c.args.part c.args.whole c.requires.part
    (λ j l. c.loop-number.invariant.few j (omega arith))
