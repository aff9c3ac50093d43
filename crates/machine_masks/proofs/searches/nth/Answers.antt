use Rattle.std.proofs.Common.{◌+◌, ◌*◌, refl, arith}
use Rattle.machine_masks.proofs.Sets.{none_first, word_more, nth_found}
use Rattle.machine_masks.proofs.searches.nth.Goals as goal

pub loop-w-init : goal.loop-w-init
loop-w-init c = let none = none_first c.args.words.now in omega arith

pub returns-then-left-ones-clause-place : goal.returns-then-left-ones-clause-place
returns-then-left-ones-clause-place c =
    let bit = c.nth_bit.ensures in
    (nth_found c.args.words.now c.loop-w.w c.nth_bit.result (c.loop-w.w * 64 + c.nth_bit.result) c.loop-w.left c.args.place (omega arith) bit.below bit.set bit.place
    c.loop-w.invariant refl).place

pub loop-w-preserved : goal.loop-w-preserved
loop-w-preserved c =
    let more = word_more c.args.words.now c.loop-w.w (64 * (c.loop-w.w + 1)) (c.fits-words c.loop-w.w) (omega arith) in
    let is = c.loop-w.invariant in
    omega arith
