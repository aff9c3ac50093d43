-- Locks, keys and places that come back from the file of a replica's segment (this project's own).
use Rattle.std.specs.Prelude.{◌≡◌, ℕ, true, false, List, [], ◌++◌, map, drop, Option}
use Rattle.std.specs.List.{AllByRecursion}
use Rattle.disks.specs.Held.{Held}
use Rattle.line_service.specs.Answering.{IsLine, Answers}
use Rattle.line_service.specs.Stands.{AnsweringWith, by_stand, stand}
use Rattle.segment_files.specs.Remarks.{remarks_in, without_remarks}
use Rattle.journal.specs.Recovery.{has_line_end}
use Rattle.line_replica.specs.declared.replica.Replica.{Replica}
use Rattle.line_replica.specs.Replies.{IsReplied}
use Rattle.line_replica.specs.State.{own_lines, remarks_of}
use Rattle.held_locks.specs.Kept.{AreKept}
use Rattle.lock_service.specs.declared.service.LockService.{LockService}
use Rattle.lock_service.specs.Serving.{IsServed}
use Rattle.lock_journal.specs.Begun.{begun_text, HaveBegun}
use Rattle.lock_journal.specs.KeysBack.{IsKeepable, IsFresh, IsSound, at_last}
use Rattle.lock_journal.specs.Recovered.{ComeBack}
use Rattle.lock_service.specs.StateBack.{locks_in}

-- the text with which the journal of a replica's segment begins, after the head of its file: that
-- of its locks, and then the remarks of its own lines
abbrev pub begun_with_remarks : Replica LockService → List ℕ
begun_with_remarks r = begun_text (locks_in r) ++ remarks_of (own_lines r)

-- Lines are answered so, one after the other, with a journal, by a replica whose locks begin a
-- segment, and whose keys and place can be written as lines; and no answer is lost.
pub record AreReplied (A : AnsweringWith (Replica LockService)) (old : Replica LockService)
    (lines : List (List ℕ)) (said noted : List ℕ) (new : Replica LockService) : Type 0 where
  pub begun : HaveBegun (locks_in old)
  pub sound : IsSound old
  pub noting : old.numbered.inner.terms.noting ≡ true
  pub each : AllByRecursion IsLine lines
  pub was : Option Held
  pub is : Option Held
  pub answers : Answers (by_stand A) (stand old was) lines said noted (stand new is)
  pub whole : new.lost ≡ false

-- A law: without the remarks, the locks of a replica come back from the beginning of its segment
-- and the notes of the lines since, whatever is torn after them, as they were after the last line.
abbrev pub LocksOfReplicasComeBack : Type 0
LocksOfReplicasComeBack =
    (old new : Replica LockService) (entries : List (ℕ × ℕ)) (lines : List (List ℕ))
    (said noted torn : List ℕ) → AreReplied (IsReplied IsServed) old lines said noted new
    → AreKept (locks_in new) entries → has_line_end torn ≡ false
    → ComeBack (locks_in old) (locks_in new)
    (without_remarks (begun_with_remarks old ++ (noted ++ torn)))

-- ---- the remarks

-- it answers a line so, and the first line of what it says can be kept
abbrev pub keepably : {S : Type 0} → AnsweringWith S → AnsweringWith S
keepably A old was line said noted new is = A old was line said noted new is × IsKeepable said

-- the lines that these are the remarks of: without `# `
abbrev pub lines_of_remarks : List (List ℕ) → List (List ℕ)
lines_of_remarks remarks = map (drop 2) remarks

-- The replica has the keys of another one and its digest at the last place; nothing is said, no
-- file changes, and the service inside is the one that it was.
pub record IsBrought {S : Type 0} (source old : Replica S) (was : Option Held) (said : List ℕ)
    (new : Replica S) (is : Option Held) : Type 0 where
  pub keys : new.numbered.keys ≡ source.numbered.keys
  pub running : new.running ≡ at_last source.running
  pub inner : new.numbered.inner ≡ old.numbered.inner
  pub says : said ≡ []
  pub files : is ≡ was

-- A law: a replica with no key, before the first place, that is given the lines of the remarks in a
-- segment has the keys after the segment's last line, and the digest at the last place.
abbrev pub RemarksBringBack : Type 0
RemarksBringBack =
    (old new : Replica LockService) (entries : List (ℕ × ℕ)) (lines : List (List ℕ))
    (said noted : List ℕ) → AreReplied (keepably (IsReplied IsServed)) old lines said noted new
    → AreKept (locks_in new) entries → (fresh back : Replica LockService) (was is : Option Held)
    (told notes : List ℕ) → IsFresh fresh
    → Answers (by_stand (IsReplied IsServed)) (stand fresh was)
    (lines_of_remarks (remarks_in (begun_with_remarks old ++ noted))) told notes (stand back is)
    → back.lost ≡ false → IsBrought new fresh was told back is
