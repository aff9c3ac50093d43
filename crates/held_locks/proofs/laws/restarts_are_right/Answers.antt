use Rattle.held_locks.proofs.OpenHolds.{holds_are_found, restarts_are_right}
use Rattle.held_locks.proofs.laws.restarts_are_right.Goals as goal

pub returns-clause-found : goal.returns-clause-found
returns-clause-found c = holds_are_found

pub returns-clause-right : goal.returns-clause-right
returns-clause-right c = restarts_are_right
