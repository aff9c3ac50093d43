-- Answered calls in the history that is recovered of the last segment (this project's own).
use Rattle.std.specs.Prelude.{◌≡◌, ℕ, true, List, ◌∷◌, ◌++◌, Option}
use Rattle.std.specs.List.{AllByRecursion}
use Rattle.disks.specs.Held.{Held}
use Rattle.saved_history.specs.Spelling.{Fits}
use Rattle.journal.specs.Spelling.{journal_head}
use Rattle.journal.specs.Recovery.{IsRecovered}
use Rattle.line_service.specs.Segments.{Moment}
use Rattle.line_service.specs.Service.{Part}
use Rattle.line_service.specs.Notes.{all_noted, AreIn, ToldLinesAreNoted}
use Rattle.line_service.specs.Lasting.{ToldLinesLast, EachSegmentLasts}
use Rattle.ring_service.specs.Standings.{Standing}
use Rattle.ring_service.specs.Saved.{IsRight, content_of}
use Rattle.ring_service.specs.Recovered.{IsPrefix, HaveGrown, AreCallsIn}
use Rattle.ring_service.specs.Services.{ServiceView, terms_of, keeps_journal, IsServed, segmenting}

-- The lines of a part were answered, and the call of each is in these rings with that answer.
abbrev pub HasCallsIn : List Standing → Part ServiceView → Type 0
HasCallsIn rings p =
    AreCallsIn (terms_of p.from.service) p.from.service.rings p.from.files p.lines p.said rings

-- Of these bytes rings are recovered that have the call of each line of these parts, with its
-- answer. From there the rings have only grown.
pub record AreRecovered (parts : List (Part ServiceView)) (bytes : List ℕ) (new : List Standing) :
    Type 0 where
  pub rings : List Standing
  pub recovered : IsRecovered bytes (content_of rings)
  pub calls : AllByRecursion (HasCallsIn rings) parts
  pub grown : HaveGrown rings new

-- The file of the last segment has, after its head, the rings with which its first part began, and
-- the notes of its parts, and then perhaps more. Of whatever is kept of that, if it has the notes
-- of these parts, rings are recovered that have the call of each of their lines.
abbrev pub KeepsCalls : List (Part ServiceView) → List ℕ → List Standing → Type 0
KeepsCalls parts more new =
    (earlier : List (Part ServiceView)) (first : Part ServiceView)
    (others : List (Part ServiceView)) (kept lost : List ℕ)
    → parts ≡ earlier ++ first ∷ others → AreIn first.from.number others
    → Fits (content_of first.from.service.rings)
    → kept ++ lost
    ≡ journal_head (content_of first.from.service.rings)
    ++ (all_noted (first ∷ others) ++ more)
    → IsPrefix (journal_head (content_of first.from.service.rings) ++ all_noted (first ∷ others))
    kept
    → AreRecovered (first ∷ others) kept new

-- Wherever serving ended: some parts were delivered, the file of the last segment got their notes,
-- and then perhaps more, and it keeps the answers to its lines.
abbrev pub AnsweredCallsAreRecovered : List ℕ → Moment ServiceView → ServiceView
    → Option (List ℕ) → Option (List ℕ) → Option (List ℕ) → Option (List ℕ) → Option (List ℕ)
    → Type 0
AnsweredCallsAreRecovered folder a new input rest out after journal =
    (noted : ToldLinesAreNoted IsServed segmenting folder a new input rest out after journal)
    × KeepsCalls noted.parts noted.more new.rings

-- Wherever serving ended, and whenever the power fails or the process ends then: what is left has
-- the notes of all lines that were delivered in the last segment, and they keep the answers to them.
abbrev pub AnsweredCallsLast : List ℕ → Moment ServiceView → ServiceView → Option (List ℕ)
    → Option (List ℕ) → Option (List ℕ) → Option (List ℕ) → Option Held → Type 0
AnsweredCallsLast folder a new input rest out after left =
    (last : ToldLinesLast IsServed segmenting folder a new input rest out after left)
    × KeepsCalls last.noted.parts last.noted.more new.rings

-- The same; and if each segment has a file of its own, those that have ended are left whole.
abbrev pub CallsOfEachSegmentLast : List ℕ → Moment ServiceView → ServiceView → Option (List ℕ)
    → Option (List ℕ) → Option (List ℕ) → Option (List ℕ) → Option Held → Type 0
CallsOfEachSegmentLast folder a new input rest out after left =
    (each : EachSegmentLasts IsServed segmenting folder a new input rest out after left)
    × KeepsCalls each.told.noted.parts each.told.noted.more new.rings

-- A law: rings that are right, and note what lines record, answer lines in segments. Wherever that
-- ended, the file of the last segment keeps the answers to its lines.
abbrev pub SegmentsKeepCalls : Type 0
SegmentsKeepCalls =
    (folder : List ℕ) (a : Moment ServiceView) (new : ServiceView)
    (input rest out after journal : Option (List ℕ)) → keeps_journal a.service ≡ true
    → AllByRecursion IsRight a.service.rings
    → (noted : ToldLinesAreNoted IsServed segmenting folder a new input rest out after journal)
    → KeepsCalls noted.parts noted.more new.rings
