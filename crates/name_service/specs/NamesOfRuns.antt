-- The names of rings that come back of whatever is kept of a replica's file (this project's own).
use Rattle.std.specs.Prelude.{◌≡◌, ℕ, false, List, ◌++◌}
use Rattle.journal.specs.Recovery.{has_line_end}
use Rattle.segment_files.specs.Remarks.{without_remarks}
use Rattle.segment_files.specs.RemarkLaws.{AreLines}
use Rattle.ring_service.specs.Recovered.{IsPrefix}
use Rattle.line_replica.specs.declared.replica.Replica.{Replica}
use Rattle.line_replica.specs.Log.{numbers_of, given}
use Rattle.lock_journal.specs.Begun.{begun_text}
use Rattle.name_service.specs.declared.service.NameService.{NameService}
use Rattle.name_service.specs.NameReplicas.{named_in, begun_with_all}
use Rattle.name_service.specs.NamedRuns.{IsNamedRun}
use Rattle.name_service.specs.NamesKept.{AreBoundWhereCut}

-- The names inside were given the lines that are new, and of what they noted this is kept: it is
-- what the text has of rings since the delivered lines. With the replica's own remarks among it the
-- text records how the rings were bound there.
pub record BindingsAreKeptWithin (old mid new : Replica NameService) (noted : List ℕ)
    (lines : List (List ℕ)) (text : List ℕ) : Type 0 where
  pub inside : List ℕ
  pub rings : without_remarks text
      ≡ begun_text (named_in old).locks ++ (without_remarks noted ++ without_remarks inside)
  pub bound : AreBoundWhereCut old.numbered.inner.terms (named_in old) mid.numbered.inner.segment
      (given (numbers_of mid.numbered.keys) lines) inside new.numbered.inner.segment text

-- A law: whatever is kept of the file of a replica's segment, if it has the notes of the delivered
-- lines, its whole lines record how the rings were bound where it ends.
abbrev pub NamesOfRunsComeBack : Type 0
NamesOfRunsComeBack =
    (old mid new : Replica NameService) (told untold : List (List ℕ))
    (said noted unsaid notes kept lost front torn : List ℕ)
    → IsNamedRun old mid new told untold said noted unsaid notes
    → kept ++ lost ≡ begun_with_all old ++ (noted ++ notes)
    → IsPrefix (begun_with_all old ++ noted) kept
    → kept ≡ front ++ torn → AreLines front → has_line_end torn ≡ false
    → BindingsAreKeptWithin old mid new noted untold front
