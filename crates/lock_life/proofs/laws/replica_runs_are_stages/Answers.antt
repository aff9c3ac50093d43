use Rattle.lock_life.proofs.Around.{replica_runs_are_stages, other_lines_are_replied}
use Rattle.lock_life.proofs.laws.replica_runs_are_stages.Goals as goal

pub returns : goal.returns
returns c = record { runs = replica_runs_are_stages; others = other_lines_are_replied }
