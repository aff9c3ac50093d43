-- The steps of the check of a folder.
use Rattle.std.specs.Prelude.{◌≡◌, ℕ, ◌+◌, List, length, Option, None}
use Rattle.disks.specs.Held.{Held}
use Rattle.segment_files.specs.Spelling.{no_digest}
use Rattle.segment_files.specs.Files.{File, AreChained}
use Rattle.segment_files.specs.Chain.{State, LeadTo, sums_at, digest_at}
use Rattle.tool_parts.specs.Chained.{sums_of, last_digest, AreHeldFrom}

-- files of a folder from this number on, up to the next one, that lead a chain to where it is
pub record Leads (files : Option Held) (name : List ℕ) (first next : ℕ) (l : Option State) :
    Type 0 where
  pub fs : List File
  pub lead : LeadTo None fs l
  pub held : AreHeldFrom files name first fs
  pub many : first + length fs ≡ next

-- the same up to the last file, with what they add up to
pub record Ends (files : Option Held) (name : List ℕ) (first last : ℕ) (m : Option State) :
    Type 0 where
  pub fs : List File
  pub held : AreHeldFrom files name first fs
  pub many : first + length fs ≡ last + 1
  pub chained : AreChained fs
  pub sums : sums_at m ≡ sums_of fs
  pub digest : digest_at m ≡ last_digest no_digest fs
