-- What is kept of the files that are joined, and the answers to one file more.
use Rattle.std.specs.Prelude.{◌≡◌, ℕ, ◌<◌, ◌^◌, Bool, List, length, Option, Some, slice_get, Result, Ok, Err}
use Rattle.std.specs.List.{AllByRecursion}
use Rattle.saved_history.specs.Content.{Block}
use Rattle.segment_files.specs.Files.{IsShort}
use Rattle.segment_files.specs.Chain.{State, IsAdded, IsRightRefusal}
use Rattle.chain_readers.specs.declared.join_errors.JoinError.{JoinError}
use Rattle.chain_readers.specs.declared.join_errors.JoinError.TheVariants.{Segment, Full, OutOfMemory}
use Rattle.chain_readers.specs.Joining.{with_file}

-- where the chain of the files is, and the blocks of their rings
pub record Joined : Type 0 where
  pub state : Option State
  pub blocks : List Block

-- The bytes are a file that follows, as the check of a chain has it. The blocks have its segments,
-- and no ring has more events than one history may have.
pub record IsJoinedWith (old : Joined) (bytes : List ℕ) (last : Bool) (new : Joined) : Type 0 where
  pub state : State
  pub added : IsAdded old.state bytes last state
  pub next : new.state ≡ Some state
  pub blocks : new.blocks ≡ with_file old.blocks added.file
  pub short : AllByRecursion IsShort new.blocks

-- The bytes are such a file, but with it the ring at this place has too many events.
pub record IsOverfull (old : Joined) (bytes : List ℕ) (last : Bool) (place : ℕ) : Type 0 where
  pub state : State
  pub added : IsAdded old.state bytes last state
  pub block : Block
  pub at : slice_get (with_file old.blocks added.file) place ≡ Some block
  pub long : ¬ IsShort block

-- the right refusals, memory aside
abbrev pub IsJoinRefusal : Joined → List ℕ → Bool → JoinError → Type 0
IsJoinRefusal old bytes last (Segment e) = IsRightRefusal old.state bytes last e
IsJoinRefusal old bytes last (Full place) = IsOverfull old bytes last place
IsJoinRefusal old bytes last OutOfMemory = Unit {0}

-- there are as many rings as a saved text may have
pub record IsCount (n : ℕ) : Type 0 where
  pub some : 0 < n
  pub few : n < 2 ^ 32
