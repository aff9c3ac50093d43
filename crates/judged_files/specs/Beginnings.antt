-- With which rings a segment's file begins (this project's own).
use Rattle.std.specs.Prelude.{◌≡◌, ℕ, ◌+◌, ◌-◌, if◌then◌else◌, List, [], ◌∷◌, length, slice_get, Option, None, Some, Result, Ok, Err}
use Rattle.std.specs.Option.{is_none}
use Rattle.std.specs.List.{flat_map}
use Rattle.ring_model.specs.Surveys.{granted_count}
use Rattle.ring_model.specs.declared.bases.Base.{Base}
use Rattle.saved_history.specs.Content.{Block}
use Rattle.ring_check.specs.Legal.{history}
use Rattle.segment_files.specs.Remarks.{lines_in}
use Rattle.segment_files.specs.Sums.{capped}
use Rattle.segment_files.specs.Files.{File, IsFile}
use Rattle.segment_files.specs.Chain.{IsReadSegment}
use Rattle.chain_readers.specs.declared.hold_errors.HoldError.{HoldError}
use Rattle.chain_readers.specs.declared.hold_errors.HoldError.TheVariants as unheld
use Rattle.chain_readers.specs.declared.holds.Hold.{Hold}
use Rattle.chain_readers.specs.Signs.{signs_of}
use Rattle.chain_readers.specs.Holds.{AreLaterHolds}
use Rattle.chain_readers.specs.Known.{nothing_known, read}
use Rattle.name_check.specs.declared.lines.Ring.{Ring}
use Rattle.judged_files.specs.declared.faults.JudgeError.{JudgeError}
use Rattle.judged_files.specs.declared.faults.JudgeError.TheVariants as refused
use Rattle.judged_files.specs.Lines.{is_done}

-- the lines up to the one that ends the blocks of the rings
abbrev pub begun_lines : List (List ℕ) → List (List ℕ)
begun_lines [] = []
begun_lines (line ∷ lines) = if is_done line then line ∷ [] else line ∷ begun_lines lines

-- With these bytes the file begins. They are a file by themselves, of which no line is a call's.
unfoldable pub beginning : List ℕ → List ℕ
beginning bytes = flat_map (λ (line : List ℕ). line) (begun_lines (lines_in bytes))

-- the token of a hold, if it is open
abbrev pub open_end : Option Hold → Option ℕ
open_end None = None
open_end (Some h) = if is_none h.end then Some h.token else None

-- Of holds one after the other only the last may be open.
abbrev pub open_token : List Hold → Option ℕ
open_token holds = open_end (slice_get holds (length holds - 1))

-- A ring after what is before the file and the events of its block: how many grants it had, those of
-- repairs too, and the token of the hold that is open. The first event may carry one.
pub record IsRing (b : Base) (k : Block) (g : Ring) : Type 0 where
  pub grants : g.grants ≡ capped (b.grants + granted_count (history k))
  pub holds : List Hold
  pub are : AreLaterHolds holds (signs_of b k)
  pub held : g.held ≡ open_token holds

abbrev pub AreRings : List Base → List Block → List Ring → Type 0
AreRings (b ∷ bs) (k ∷ ks) [] = ⊥
AreRings (b ∷ bs) (k ∷ ks) (g ∷ gs) = IsRing b k g × AreRings bs ks gs
AreRings _ _ gs = gs ≡ []

-- The file begins with these rings.
pub record Begins (bytes : List ℕ) (gs : List Ring) : Type 0 where
  pub file : File
  pub same : file.bytes ≡ beginning bytes
  pub is : IsFile file
  pub rings : AreRings file.head.bases file.content.rings gs

-- ---- refusals

-- the block of a ring fits no holds, at this place; memory aside
abbrev pub IsNoRing : Base → Block → HoldError → Type 0
IsNoRing b k (unheld.NoHold at) = read nothing_known (signs_of b k) ≡ Err at
IsNoRing b k unheld.OutOfMemory = Unit {0}

abbrev pub IsRingRead : Base → Block → Result Ring HoldError → Type 0
IsRingRead b k (Ok g) = IsRing b k g
IsRingRead b k (Err e) = IsNoRing b k e

-- that of the ring of this number fits none
abbrev pub IsUnheld : List Base → List Block → ℕ → ℕ → Type 0
IsUnheld bs ks i at =
    (b : Base)
    × (k : Block)
    × (slice_get bs i ≡ Some b)
    × (slice_get ks i ≡ Some k)
    × IsNoRing b k (unheld.NoHold at)

-- the name of that refusal for the block of the ring of this number
abbrev pub refused_at : ℕ → HoldError → JudgeError
refused_at ring (unheld.NoHold at) = refused.NoHold ring at
refused_at ring unheld.OutOfMemory = refused.OutOfMemory

-- the blocks of rings fit no holds; memory aside
abbrev pub AreUnheld : List Base → List Block → JudgeError → Type 0
AreUnheld bs ks (refused.NoHold ring at) = IsUnheld bs ks ring at
AreUnheld bs ks refused.OutOfMemory = Unit {0}
AreUnheld bs ks _ = ⊥

-- the beginning of the file is that of none, or fits no holds
abbrev pub IsUnbegun : List ℕ → JudgeError → Type 0
IsUnbegun bytes (refused.NoHold ring at) =
    (f : File)
    × (f.bytes ≡ beginning bytes)
    × IsFile f
    × IsUnheld f.head.bases f.content.rings ring at
IsUnbegun bytes (refused.Segment e) = IsReadSegment (beginning bytes) (Err e)
IsUnbegun bytes refused.OutOfMemory = Unit {0}
IsUnbegun bytes _ = ⊥
