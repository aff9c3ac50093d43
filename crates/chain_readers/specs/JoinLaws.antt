-- What is joined is one legal history (this project's own).
use Rattle.std.specs.Prelude.{◌≡◌, ℕ, ◌<◌, List, [], length, Some, slice_get}
use Rattle.saved_history.specs.Content.{Block}
use Rattle.ring_check.specs.Legal.{IsLegalText, history}
use Rattle.ring_model.specs.Chains.{chain_history}
use Rattle.segment_files.specs.Files.{File, first_link, AreChainedAfter, AreChained, of_ring}
use Rattle.chain_readers.specs.Joining.{with_files, joined}
use Rattle.chain_readers.specs.Joins.{IsCount}

-- a chain has as many rings as a saved text may have
abbrev pub JoinedHaveRings : Type 0
JoinedHaveRings =
    (fs : List File) → AreChained fs → 0 < length fs → IsCount (length (with_files [] fs))

-- of a chain from the first file of all on, the whole is legal, by the checker's table
abbrev pub JoinedIsLegal : Type 0
JoinedIsLegal = (fs : List File) → AreChainedAfter first_link fs → IsLegalText (joined fs)

-- of each ring it has the history of the chain of its segments
abbrev pub JoinedIsOfChains : Type 0
JoinedIsOfChains =
    (fs : List File) → AreChainedAfter first_link fs → (i : ℕ) → (k : Block)
    → slice_get (joined fs).rings i ≡ Some k → history k ≡ chain_history (of_ring i fs)
