-- What holds of the holds of a chain of files (this project's own).
use Rattle.std.specs.Prelude.{◌≡◌, ℕ, Bool, false, List, [], ◌∷◌, ◌++◌, None}
use Rattle.segment_files.specs.Files.{File, AreChained}
use Rattle.chain_readers.specs.declared.holds.Hold.{Hold}
use Rattle.segment_files.specs.Chain as segments
use Rattle.chain_readers.specs.Chains.{of_lock, AreHoldsIn, LeadTo, HoldsSoFar, IsHeldWith}
use Rattle.chain_readers.specs.HoldLaws.{AreApart}

-- of a lock no two holds are open at a time, over all segments
abbrev pub ChainHoldsExclude : Type 0
ChainHoldsExclude =
    (fs : List File) (lock : ℕ) (holds : List Hold) → AreChained fs
    → AreHoldsIn (of_lock lock fs) holds → AreApart holds

-- Files that were read so, and after them one more, which may be the last: they are a chain, and
-- what is known of its locks is what they record.
pub record TellHolds (fs : List File) (bytes : List ℕ) (last : Bool) (new : HoldsSoFar) : Type 0
  where
    pub file : File
    pub same : file.bytes ≡ bytes
    pub chain : AreChained (fs ++ file ∷ [])
    pub told : LeadTo [] (fs ++ file ∷ []) new.locks
    pub on : last ≡ false → segments.LeadTo None (fs ++ file ∷ []) new.state

abbrev pub ReadFilesTell : Type 0
ReadFilesTell =
    (fs : List File) (old new : HoldsSoFar) (bytes : List ℕ) (last : Bool)
    → segments.LeadTo None fs old.state → LeadTo [] fs old.locks → IsHeldWith old bytes last new
    → TellHolds fs bytes last new
