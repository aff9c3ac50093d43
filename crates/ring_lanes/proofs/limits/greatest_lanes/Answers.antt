use Rattle.std.proofs.Common.{arith, w8}
use Rattle.ring_lanes.proofs.Folding.{fold_begins, fold_goes_on, fold_ends}
use Rattle.ring_lanes.proofs.limits.greatest_lanes.Goals as goal

pub loop-i-init : goal.loop-i-init
loop-i-init c = fold_begins c.args.s.now c.requires

pub loop-i-preserved : goal.loop-i-preserved
loop-i-preserved c = fold_goes_on w8 c.args.s.now c.loop-i.i c.loop-i.greatest c.loop-i.invariant (omega arith)

pub returns-then-n-i-gt32 : goal.returns-then-n-i-gt32
returns-then-n-i-gt32 c = fold_ends w8 c.args.s.now c.loop-i.i c.loop-i.greatest c.loop-i.invariant (omega arith) (omega arith)
