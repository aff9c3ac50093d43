use Rattle.lock_life.proofs.Started.{started_locks_are_found}
use Rattle.lock_life.proofs.StartedBegin.{started_locks_begin}
use Rattle.lock_life.proofs.LastSegments.{kept_segments_start, found_locks_begin}
use Rattle.lock_life.proofs.laws.started_locks_are_found.Goals as goal

pub returns : goal.returns
returns c = record { found = started_locks_are_found; kept = kept_segments_start; begun = found_locks_begin; starts = started_locks_begin }
