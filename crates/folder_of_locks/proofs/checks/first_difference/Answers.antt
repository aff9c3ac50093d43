use Rattle.folder_of_locks.proofs.Checked.{continues}
use Rattle.folder_of_locks.proofs.checks.first_difference.Goals as goal

pub returns-clause-same : goal.returns-clause-same
returns-clause-same c = λ _. continues c.args.old.now c.args.new.now c.loop-place.place c.loop-place-test.false c.loop-place.invariant.0
