-- The steps of `join`.
use Rattle.std.specs.Prelude.{◌≡◌, ℕ, ◌+◌, List, [], length, Option, None}
use Rattle.disks.specs.Held.{Held}
use Rattle.segment_files.specs.Files.{File, AreChained}
use Rattle.segment_files.specs.Chain.{LeadTo, sums_at}
use Rattle.chain_readers.specs.Joining.{with_files}
use Rattle.chain_readers.specs.Joins.{Joined, IsCount}
use Rattle.tool_parts.specs.Chained.{sums_of, AreHeldFrom}

-- files of a folder from this number on, up to the next one, that were joined
pub record JoinLeads (files : Option Held) (name : List ℕ) (first next : ℕ) (l : Joined) : Type 0
  where
    pub fs : List File
    pub lead : LeadTo None fs l.state
    pub held : AreHeldFrom files name first fs
    pub many : first + length fs ≡ next
    pub blocks : l.blocks ≡ with_files [] fs

-- the same up to the last file
pub record JoinEnds (files : Option Held) (name : List ℕ) (first last : ℕ) (l : Joined) : Type 0
  where
    pub fs : List File
    pub held : AreHeldFrom files name first fs
    pub many : first + length fs ≡ last + 1
    pub chained : AreChained fs
    pub sums : sums_at l.state ≡ sums_of fs
    pub blocks : l.blocks ≡ with_files [] fs
    pub count : IsCount (length l.blocks)
