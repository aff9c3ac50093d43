-- What is left of a run of a replica of locks by any name (this project's own).
use Rattle.std.specs.Prelude.{◌≡◌, ℕ, ◌<◌, ◌^◌, false, List, ◌++◌, Option}
use Rattle.std.specs.List.{AllByRecursion}
use Rattle.disks.specs.Held.{Held}
use Rattle.line_service.specs.Answering.{IsLine, Answers}
use Rattle.line_service.specs.Stands.{by_stand, stand}
use Rattle.ring_service.specs.Recovered.{IsPrefix}
use Rattle.line_replica.specs.declared.replica.Replica.{Replica}
use Rattle.line_replica.specs.Log.{numbers_of, given}
use Rattle.line_replica.specs.Replies.{IsReplied}
use Rattle.held_locks.specs.Kept.{AreKept}
use Rattle.lock_journal.specs.Replicas.{AreToldAround}
use Rattle.name_service.specs.declared.service.NameService.{NameService}
use Rattle.name_service.specs.Serving.{IsNameServed}
use Rattle.name_service.specs.NameLines.{AreNamesKeptIn}
use Rattle.name_service.specs.NameReplicas.{named_in, begun_with_all, AreNamesReplied}

-- Lines were delivered, and then some more were answered, by a replica whose locks begin a segment;
-- and no answer was lost.
pub record IsNamedRun (old mid new : Replica NameService) (told untold : List (List ℕ))
    (said noted unsaid notes : List ℕ) : Type 0 where
  pub delivered : AreNamesReplied old told said noted mid
  pub each : AllByRecursion IsLine untold
  pub is : Option Held
  pub answered : Answers (by_stand (IsReplied IsNameServed)) (stand mid delivered.is) untold unsaid
      notes (stand new is)
  pub whole : new.lost ≡ false
  pub bits : (named_in new).top < 2 ^ 64

-- The names inside were given the lines that are new, of those that were delivered; what they said
-- is what the replica said of these lines; and what the rings answered is in what is kept.
pub record AreKeptWithin (old : Replica NameService) (told : List (List ℕ)) (said : List ℕ)
    (mid : Replica NameService) (bytes : List ℕ) : Type 0 where
  pub inner : List ℕ
  pub inside : List ℕ
  pub around : AreToldAround (numbers_of old.numbered.keys) told said inner
  pub kept : AreNamesKeptIn old.numbered.inner.terms old.numbered.inner.segment
      (given (numbers_of old.numbered.keys) told) inner inside mid.numbered.inner.segment bytes

-- A law: whatever is kept of the segment's file, if it has the notes of the delivered lines, nothing
-- that they did is lost.
abbrev pub NothingToldOfReplicasIsLost : Type 0
NothingToldOfReplicasIsLost =
    (old mid new : Replica NameService) (entries : List (ℕ × ℕ)) (told untold : List (List ℕ))
    (said noted unsaid notes kept lost : List ℕ)
    → IsNamedRun old mid new told untold said noted unsaid notes
    → AreKept (named_in new).locks entries
    → kept ++ lost ≡ begun_with_all old ++ (noted ++ notes)
    → IsPrefix (begun_with_all old ++ noted) kept → AreKeptWithin old told said mid kept
