-- Locks by any name that come back of the file of a replica's segment (this project's own).
use Rattle.std.specs.Prelude.{◌≡◌, ℕ, ◌<◌, ◌^◌, true, false, List, ◌++◌, Option}
use Rattle.std.specs.List.{AllByRecursion}
use Rattle.disks.specs.Held.{Held}
use Rattle.line_service.specs.Answering.{IsLine, Answers}
use Rattle.line_service.specs.Stands.{by_stand, stand}
use Rattle.segment_files.specs.Remarks.{without_remarks}
use Rattle.journal.specs.Recovery.{has_line_end}
use Rattle.line_replica.specs.declared.replica.Replica.{Replica}
use Rattle.line_replica.specs.Replies.{IsReplied}
use Rattle.line_replica.specs.State.{own_lines, remarks_of}
use Rattle.held_locks.specs.Kept.{AreKept}
use Rattle.lock_names.specs.Kept.{NamedView}
use Rattle.lock_journal.specs.Begun.{HaveBegun}
use Rattle.lock_journal.specs.KeysBack.{IsSound}
use Rattle.lock_journal.specs.Recovered.{ComeBack}
use Rattle.name_service.specs.declared.service.NameService.{NameService}
use Rattle.name_service.specs.Serving.{IsNameServed}
use Rattle.name_service.specs.RightNames.{AreRightNames}
use Rattle.name_service.specs.NameLines.{begun_names}
use Rattle.name_service.specs.NamesBack.{NamesComeBackOf}

-- the names of a replica's locks
abbrev pub named_in : Replica NameService → NamedView
named_in r = r.numbered.inner.segment.named

-- the text with which the journal of a replica's segment begins, after the head of its file: that of
-- its rings and their names, and then the remarks of its own lines
abbrev pub begun_with_all : Replica NameService → List ℕ
begun_with_all r = begun_names (named_in r) ++ remarks_of (own_lines r)

-- Lines are answered so, one after the other, with a journal, by a replica whose locks begin a
-- segment, and whose keys and place can be written as lines; and no answer is lost.
pub record AreNamesReplied (old : Replica NameService) (lines : List (List ℕ))
    (said noted : List ℕ) (new : Replica NameService) : Type 0 where
  pub begun : HaveBegun (named_in old).locks
  pub right : AreRightNames (named_in old)
  pub sound : IsSound old
  pub noting : old.numbered.inner.terms.lines.noting ≡ true
  pub each : AllByRecursion IsLine lines
  pub was : Option Held
  pub is : Option Held
  pub answers : Answers (by_stand (IsReplied IsNameServed)) (stand old was) lines said noted
      (stand new is)
  pub whole : new.lost ≡ false
  pub bits : (named_in new).top < 2 ^ 64

-- A law: without the remarks, the locks of a replica come back from the beginning of its segment
-- and the notes of the lines since, whatever is torn after them, as they were after the last line.
abbrev pub LocksOfNamedReplicasComeBack : Type 0
LocksOfNamedReplicasComeBack =
    (old new : Replica NameService) (entries : List (ℕ × ℕ)) (lines : List (List ℕ))
    (said noted torn : List ℕ) → AreNamesReplied old lines said noted new
    → AreKept (named_in new).locks entries → has_line_end torn ≡ false
    → ComeBack (named_in old).locks (named_in new).locks
    (without_remarks (begun_with_all old ++ (noted ++ torn)))

-- A law: and so do their names, of the remarks, among which are the replica's own.
abbrev pub NamesOfReplicasComeBack : Type 0
NamesOfReplicasComeBack =
    (old new : Replica NameService) (lines : List (List ℕ)) (said noted : List ℕ)
    → AreNamesReplied old lines said noted new
    → NamesComeBackOf (named_in old) (named_in new) (begun_with_all old ++ noted)
