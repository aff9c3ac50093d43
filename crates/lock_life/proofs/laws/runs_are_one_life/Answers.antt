use Rattle.lock_life.proofs.OneLife.{runs_are_one_life}
use Rattle.lock_life.proofs.laws.runs_are_one_life.Goals as goal

pub returns : goal.returns
returns c = runs_are_one_life
