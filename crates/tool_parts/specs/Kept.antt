-- What `recover` keeps of a journal, and how it reports what is left out.
use Rattle.std.specs.Prelude.{◌≡◌, ℕ, ◌+◌, ◌-◌, Bool, true, false, List, [], ◌++◌, length, codes, decimal, Option, None, Some, Err, ◌⊎◌}
use Rattle.text_lines.specs.Texts.{Spells, IsCutShort}
use Rattle.saved_history.specs.Content.{Content}
use Rattle.ring_check.specs.Names.{kind_name}
use Rattle.journal.specs.declared.errors.RecoverError.{RecoverError}
use Rattle.journal.specs.declared.errors.RecoverError.TheVariants.{Truncated, Syntax, Bad, OutOfMemory}
use Rattle.journal.specs.Recovery.{IsRecovered, IsRightRecovery}
use Rattle.journal.specs.Salvaging.{IsSalvaged, IsLost, IsRightSalvage}
use Rattle.segment_files.specs.Spelling.{HeadFits, head_text}
use Rattle.segment_files.specs.Meaning.{BeginsNoHead}
use Rattle.segment_files.specs.Files.{File}
use Rattle.segment_files.specs.Sums.{capped}
use Rattle.segment_files.specs.Chain.{AfterHead, head_lines}
use Rattle.segment_files.specs.Remarks.{lines_in, without_remarks, line_among}
use Rattle.tool_parts.specs.LastPlace.{last_place, kept_lines}

-- ---- a journal

-- The history that is kept of the bytes of a journal. If it is not to be salvaged, it is recovered
-- from all of them; else from those before a bad line, or from all if no line is bad.
abbrev pub IsKept : Bool → List ℕ → Content → ℕ → Option RecoverError → Type 0
IsKept false bytes c kept bad = IsRecovered bytes c × (kept ≡ length bytes) × (bad ≡ None)
IsKept true bytes c kept bad = IsSalvaged bytes kept bad c

-- nothing is kept, for the right reason
abbrev pub IsUnkept : Bool → List ℕ → RecoverError → Type 0
IsUnkept false bytes e = IsRightRecovery bytes (Err e)
IsUnkept true bytes e = IsRightSalvage bytes (Err e)

-- ---- the line that reports what is left out

-- a refusal, after the line that it names
abbrev pub named_fault : RecoverError → List ℕ
named_fault Truncated = codes "\n"
named_fault (Syntax line) = decimal line ++ codes ": syntax\n"
named_fault (Bad line kind) = decimal line ++ (codes ": " ++ (kind_name kind ++ codes "\n"))
named_fault OutOfMemory = codes "\n"

-- how many bytes are left out, from which line on, and why; nothing if none is
abbrev pub left_line : ℕ → Option RecoverError → List ℕ
left_line bytes None = []
left_line bytes (Some e) =
    codes "left out " ++ (decimal bytes ++ (codes " bytes from line " ++ named_fault e))

-- ---- the journal in a file of a chain

-- a refusal of a journal, by its line among these ones, which come after this many lines of a file
abbrev pub fault_in : ℕ → List (List ℕ) → RecoverError → RecoverError
fault_in before lines Truncated = Truncated
fault_in before lines (Syntax line) = Syntax (capped (line_among lines line + before))
fault_in before lines (Bad line kind) = Bad (capped (line_among lines line + before)) kind
fault_in before lines OutOfMemory = OutOfMemory

abbrev pub bad_in : ℕ → List (List ℕ) → Option RecoverError → Option RecoverError
bad_in before lines None = None
bad_in before lines (Some e) = Some (fault_in before lines e)

-- The bytes begin with the text of the head, and the content is kept of those after it, without
-- their remarks.
pub record IsFileKept (salvage : Bool) (f : File) : Type 0 where
  pub rest : List ℕ
  pub fits : HeadFits f.head
  pub spelled : f.bytes ≡ head_text f.head ++ rest
  pub many : ℕ
  pub bad : Option RecoverError
  pub kept : IsKept salvage (without_remarks rest) f.content many bad

-- the line that reports what of the file is left out: its remarks count as lines, not as bytes
abbrev pub file_left : {salvage : Bool} {f : File} → IsFileKept salvage f → List ℕ
file_left {salvage} {f} k =
    left_line (length (without_remarks k.rest) - k.many)
    (bad_in (head_lines f.head) (lines_in k.rest) k.bad)

-- the last place that a remark gives before what is left out
abbrev pub file_place : {salvage : Bool} {f : File} → IsFileKept salvage f → List ℕ
file_place k = last_place (kept_lines (lines_in k.rest) k.bad)

-- Nothing can be salvaged of the bytes of a file: its head is refused, or its journal's start.
abbrev pub IsLostFile : List ℕ → Type 0
IsLostFile bytes =
    (IsCutShort (Spells HeadFits head_text) bytes ⊎ BeginsNoHead bytes)
    ⊎ AfterHead bytes (λ h rest. (e : RecoverError) × IsLost (without_remarks rest) e)
