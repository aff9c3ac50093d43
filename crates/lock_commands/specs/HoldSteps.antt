-- The steps of `holds` over the files of a folder.
use Rattle.std.specs.Prelude.{◌≡◌, ℕ, ◌+◌, List, [], ◌++◌, length, Bool, Option, None}
use Rattle.disks.specs.Held.{Held}
use Rattle.segment_files.specs.Files.{File, AreChained}
use Rattle.segment_files.specs.Chain as segments
use Rattle.segment_files.specs.Remarks.{lines_in}
use Rattle.chain_readers.specs.Chains.{HoldsSoFar, IsHeldWith, LeadTo}
use Rattle.name_history.specs.Said.{RingBinding, AreSaid}
use Rattle.tool_parts.specs.Chained.{sums_of, AreHeldFrom}
use Rattle.lock_commands.specs.declared.held_folder.ReadFiles.{ReadFiles}
use Rattle.lock_commands.specs.HoldsAnswer.{lines_of_files}

-- the holds of some files, and the bindings that their remarks say
pub record ReadSoFar : Type 0 where
  pub holds : HoldsSoFar
  pub said : List RingBinding

-- the content of the program's own type
abbrev pub so_far : ReadFiles → ReadSoFar
so_far r = record { holds = r.holds; said = r.said.items }

-- the bytes are a file that follows, whose segments fit the holds, and whose bindings are added
pub record IsReadWith (old : ReadSoFar) (bytes : List ℕ) (last : Bool) (new : ReadSoFar) : Type 0
  where
    pub held : IsHeldWith old.holds bytes last new.holds
    pub more : List RingBinding
    pub said : AreSaid (lines_in bytes) more
    pub added : new.said ≡ old.said ++ more

-- files of a folder from this number on, up to the next one, which were read
pub record HoldLeads (files : Option Held) (name : List ℕ) (first next : ℕ) (r : ReadSoFar) :
    Type 0 where
  pub fs : List File
  pub lead : segments.LeadTo None fs r.holds.state
  pub told : LeadTo [] fs r.holds.locks
  pub held : AreHeldFrom files name first fs
  pub many : first + length fs ≡ next
  pub said : AreSaid (lines_of_files fs) r.said

-- the same up to the last file
pub record HoldEnds (files : Option Held) (name : List ℕ) (first last : ℕ) (r : ReadSoFar) :
    Type 0 where
  pub fs : List File
  pub told : LeadTo [] fs r.holds.locks
  pub held : AreHeldFrom files name first fs
  pub many : first + length fs ≡ last + 1
  pub chained : AreChained fs
  pub sums : segments.sums_at r.holds.state ≡ sums_of fs
  pub said : AreSaid (lines_of_files fs) r.said
