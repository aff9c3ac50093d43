use Rattle.lock_journal.proofs.Segments.{added_locks_begin, next_locks_begin}
use Rattle.lock_journal.proofs.HandedHolds.{handed_locks_begin}
use Rattle.lock_journal.proofs.laws.locks_begin_segments.Goals as goal

pub returns : goal.returns
returns c = record { added = added_locks_begin; next = next_locks_begin; handed = handed_locks_begin }
