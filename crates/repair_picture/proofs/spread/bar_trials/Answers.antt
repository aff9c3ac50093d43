use Rattle.std.proofs.Common.{arith}
use Rattle.repair_picture.proofs.spread.bar_trials.Goals as goal

pub returns-clause-most : goal.returns-clause-most
returns-clause-most c =
    let most = c.counted_in.ensures.most in
    let few = c.bar_width-width.ensures.few in
    omega arith
