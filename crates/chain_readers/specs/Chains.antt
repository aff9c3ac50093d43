-- The holds of the locks whose segments a chain of files has (this project's own).
use Rattle.std.specs.Prelude.{◌≡◌, ℕ, zero, suc, ◌+◌, ◌==◌, if◌then◌else◌, Bool, true, false, List, [], ◌∷◌, ◌++◌, length, map, drop, Option, Some, Result, Ok, Err, slice_get}
use Rattle.std.specs.List.{flat_map}
use Rattle.saved_history.specs.Content.{Block}
use Rattle.ring_model.specs.declared.bases.Base.{Base}
use Rattle.ring_model.specs.Bases.{no_base}
use Rattle.segment_files.specs.Files.{File}
use Rattle.segment_files.specs.Chain.{State, IsAdded, IsRightRefusal}
use Rattle.chain_readers.specs.declared.hold_errors.ChainHoldError.{ChainHoldError}
use Rattle.chain_readers.specs.declared.hold_errors.ChainHoldError.TheVariants as refused
use Rattle.chain_readers.specs.declared.holds.Hold.{Hold}
use Rattle.chain_readers.specs.declared.signs.Sign.{Sign}
use Rattle.chain_readers.specs.Signs.{signs_of}
use Rattle.chain_readers.specs.Holds.{AreHolds, AreLaterHolds}
use Rattle.chain_readers.specs.Known.{Known, nobody_holds, nothing_known, all_holds, read}

-- a segment of a lock's ring: what came before it, and its block
pub record Part : Type 0 where
  pub base : Base
  pub block : Block

abbrev pub parts_of : List Base → List Block → List Part
parts_of (b ∷ bs) (k ∷ ks) = record { base = b; block = k } ∷ parts_of bs ks
parts_of _ _ = []

abbrev pub parts_in : File → List Part
parts_in f = parts_of f.head.bases f.content.rings

-- ---- the meaning

-- the segments of the lock of this number, and their signs
abbrev pub at_number : ℕ → List Part → List Part
at_number lock [] = []
at_number zero (p ∷ ps) = p ∷ []
at_number (suc lock) (p ∷ ps) = at_number lock ps

abbrev pub of_lock : ℕ → List File → List Part
of_lock lock fs = flat_map (λ (f : File). at_number lock (parts_in f)) fs

abbrev pub signs_in : List Part → List (ℕ × Sign)
signs_in ps = flat_map (λ (p : Part). signs_of p.base p.block) ps

-- Segments record these holds. If events came before the first of them, it may carry a hold of
-- whose beginning nothing is known; else no client holds before it.
abbrev pub AreHoldsAfter : Bool → List Hold → List (ℕ × Sign) → Type 0
AreHoldsAfter true holds signs = AreHolds 0 holds signs
AreHoldsAfter false holds signs = AreLaterHolds holds signs

abbrev pub AreHoldsIn : List Part → List Hold → Type 0
AreHoldsIn [] holds = holds ≡ []
AreHoldsIn (p ∷ ps) holds = AreHoldsAfter (p.base.events == 0) holds (signs_in (p ∷ ps))

-- ---- file by file

-- what is known of a lock before the first segment of its ring that there is
abbrev pub started : Part → Known
started p = if p.base.events == 0 then nobody_holds else nothing_known

-- what is known of each lock after its next segment; or which lock is refused, and where
abbrev pub with_first : Result Known ℕ → ℕ → Result (List Known) (ℕ × ℕ) → Result (List Known) (ℕ × ℕ)
with_first (Err at) lock others = Err (lock, at)
with_first (Ok k) lock (Err e) = Err e
with_first (Ok k) lock (Ok ks) = Ok (k ∷ ks)

abbrev pub with_parts : ℕ → List Known → List Part → Result (List Known) (ℕ × ℕ)
with_parts lock (k ∷ ks) (p ∷ ps) =
    with_first (read k (signs_of p.base p.block)) lock (with_parts (lock + 1) ks ps)
with_parts lock ks _ = Ok ks

-- the locks, and those whose first segment is among these
abbrev pub locks_opened : List Known → List Part → List Known
locks_opened ks ps = ks ++ map started (drop (length ks) ps)

abbrev pub holds_with_file : List Known → File → Result (List Known) (ℕ × ℕ)
holds_with_file ks f = with_parts 0 (locks_opened ks (parts_in f)) (parts_in f)

-- the files lead from what was known of the locks to what is known of them
abbrev pub LeadTo : List Known → List File → List Known → Type 0
LeadTo ks [] ms = ks ≡ ms
LeadTo ks (f ∷ fs) ms = (ns : List Known) × (holds_with_file ks f ≡ Ok ns) × LeadTo ns fs ms

-- ---- the answers

-- where the chain is, and what is known of its locks
pub record HoldsSoFar : Type 0 where
  pub state : Option State
  pub locks : List Known

-- the bytes are a file that follows, whose segments fit the holds
pub record IsHeldWith (old : HoldsSoFar) (bytes : List ℕ) (last : Bool) (new : HoldsSoFar) :
    Type 0 where
  pub state : State
  pub added : IsAdded old.state bytes last state
  pub next : new.state ≡ Some state
  pub locks : holds_with_file old.locks added.file ≡ Ok new.locks

-- the right refusals, memory aside
abbrev pub IsHoldRefusal : HoldsSoFar → List ℕ → Bool → ChainHoldError → Type 0
IsHoldRefusal old bytes last (refused.Segment e) = IsRightRefusal old.state bytes last e
IsHoldRefusal old bytes last (refused.NoHold lock at) =
    (state : State)
    × (added : IsAdded old.state bytes last state)
    × (holds_with_file old.locks added.file ≡ Err (lock, at))
IsHoldRefusal old bytes last refused.OutOfMemory = Unit {0}

-- ---- a saved history

-- The blocks of a saved text, each of which may be a segment: it is not known what came before.
abbrev pub part_of : Block → Part
part_of k = record { base = no_base; block = k }

abbrev pub unknown : Block → Known
unknown k = nothing_known

abbrev pub of_blocks : List Block → Result (List Known) (ℕ × ℕ)
of_blocks ks = with_parts 0 (map unknown ks) (map part_of ks)

-- ---- the laws

-- what is known of a lock after files are its holds
abbrev pub FilesTellHolds : Type 0
FilesTellHolds =
    (fs : List File) (ms : List Known) → LeadTo [] fs ms → (lock : ℕ) (m : Known)
    → slice_get ms lock ≡ Some m → AreHoldsIn (of_lock lock fs) (all_holds m)

-- and so after the block of a saved text
abbrev pub BlocksTellHolds : Type 0
BlocksTellHolds =
    (ks : List Block) (ms : List Known) → of_blocks ks ≡ Ok ms → (lock : ℕ) (m : Known)
    → slice_get ms lock ≡ Some m
    → (k : Block) × (slice_get ks lock ≡ Some k)
    × AreLaterHolds (all_holds m) (signs_of no_base k)
