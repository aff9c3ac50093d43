use Rattle.std.proofs.Common.{◌≡◌}
use Rattle.repair_picture.specs.Spread.{most_trials}
use Rattle.repair_picture.proofs.spread.most_trials.Given as goal

abbrev pub invariant-loop-place : goal.invariant-loop-place
invariant-loop-place l = l.most ≡ most_trials l.counts l.figures l.place
