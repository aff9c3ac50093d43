use Rattle.lock_life.proofs.Life.{runs_are_a_life}
use Rattle.lock_life.proofs.laws.runs_are_a_life.Goals as goal

pub returns : goal.returns
returns c = runs_are_a_life
