use Rattle.held_locks.proofs.Shown.{segments_show_holds, segments_recover, carried_changes_nothing}
use Rattle.held_locks.proofs.laws.segments_show_holds.Goals as goal

pub returns-clause-nothing : goal.returns-clause-nothing
returns-clause-nothing c = carried_changes_nothing

pub returns-clause-shows : goal.returns-clause-shows
returns-clause-shows c = segments_show_holds

pub returns-clause-restarts : goal.returns-clause-restarts
returns-clause-restarts c = segments_recover
