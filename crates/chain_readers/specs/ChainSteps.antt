-- The answers to the next segments of locks.
use Rattle.std.specs.Prelude.{◌≡◌, ℕ, List, map, Result, Ok, Err}
use Rattle.saved_history.specs.Content.{Block}
use Rattle.chain_readers.specs.declared.hold_errors.HoldError.{HoldError}
use Rattle.chain_readers.specs.declared.hold_errors.HoldError.TheVariants as hold
use Rattle.chain_readers.specs.declared.hold_errors.ChainHoldError.{ChainHoldError}
use Rattle.chain_readers.specs.declared.hold_errors.ChainHoldError.TheVariants.{Segment, NoHold, OutOfMemory}
use Rattle.chain_readers.specs.declared.holds.Hold.{Hold}
use Rattle.chain_readers.specs.Known.{Known, all_holds}
use Rattle.chain_readers.specs.Chains.{Part, with_parts, of_blocks}

-- the refusal of a lock's segment, as one of the lock of this number
abbrev pub refused_at : ℕ → HoldError → ChainHoldError
refused_at lock (hold.NoHold at) = NoHold lock at
refused_at lock hold.OutOfMemory = OutOfMemory

-- what is known of the locks after their next segments, or the first that is refused; memory aside
abbrev pub ArePartsRead : List Known → List Part → Result (Unit {0}) ChainHoldError → List Known
    → Type 0
ArePartsRead ks ps (Ok u) ms = with_parts 0 ks ps ≡ Ok ms
ArePartsRead ks ps (Err (NoHold lock at)) ms = with_parts 0 ks ps ≡ Err (lock, at)
ArePartsRead ks ps (Err (Segment e)) ms = ⊥
ArePartsRead ks ps (Err OutOfMemory) ms = Unit {0}

-- these are the holds of the locks of these blocks, each of which may be a segment
pub record AreBlocksHeld (ks : List Block) (holds : List (List Hold)) : Type 0 where
  pub locks : List Known
  pub is : of_blocks ks ≡ Ok locks
  pub all : holds ≡ map all_holds locks

-- or this is the first lock that is refused; memory aside
abbrev pub AreBlocksRefused : List Block → ChainHoldError → Type 0
AreBlocksRefused ks (NoHold lock at) = of_blocks ks ≡ Err (lock, at)
AreBlocksRefused ks (Segment e) = ⊥
AreBlocksRefused ks OutOfMemory = Unit {0}
