use Rattle.held_locks.proofs.Shown.{history_shows_holds, restarts_recover}
use Rattle.held_locks.proofs.laws.history_shows_holds.Goals as goal

pub returns-clause-shows : goal.returns-clause-shows
returns-clause-shows c = history_shows_holds

pub returns-clause-restarts : goal.returns-clause-restarts
returns-clause-restarts c = restarts_recover
