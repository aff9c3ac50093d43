-- What is torn after whole lines changes nothing of what is found in them.
use Rattle.std.proofs.Common.{◌≡◌, ℕ, false, List, ◌++◌, subst}
use Rattle.journal.specs.Recovery.{has_line_end, IsRecovered}
use Rattle.segment_files.specs.Remarks.{without_remarks}
use Rattle.segment_files.specs.RemarkLaws.{AreLines}
use Rattle.segment_files.proofs.Remarked.{without_append}
use Rattle.held_locks.specs.Kept.{LockView}
use Rattle.lock_journal.proofs.WholeEnds.{unended}
use Rattle.lock_journal.proofs.WithoutRemarks.{torn_none}
use Rattle.lock_life.specs.Life.{AreFound}

-- so the locks that are found are
pub found_before : (start : List LockView) (lines rest : List ℕ) (found : List LockView) → AreLines lines → has_line_end rest ≡ false → AreFound start (without_remarks (lines ++ rest)) found → AreFound start (without_remarks lines) found
found_before start lines rest found whole none f = record {
  history = f.history;
  recovered = unended (without_remarks lines) (without_remarks rest) f.history (torn_none rest none) (subst (λ (u : List ℕ). IsRecovered u f.history) (without_append lines rest whole) f.recovered);
  rings = f.rings;
  made = f.made;
  added = f.added;
}
