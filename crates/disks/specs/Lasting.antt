-- What a loss of power, or an end of the process, leaves of files (this project's own).
use Rattle.std.specs.Prelude.{◌≡◌, Bool, true, false, ℕ, ◌≤◌, ◌⊎◌, List, ◌++◌, length, take, Option, None, Some, Result, MatchResult, ⊤}
use Rattle.std.specs.Io.KnownBytes.{Appends, Keeps}
use Rattle.disks.specs.Held.{Held, IsOneFile, bytes_of}

-- What is written is left: it is synced; or all that is written is left, synced or not, as where the
-- process ends and the power does not.
abbrev pub outlives : Bool → Bool → Bool
outlives keeps true = true
outlives keeps false = keeps

-- ---- one file

-- All of these bytes were added; or, at an error, the first n of them, where n is the error.
abbrev pub Adds : {T : Type 0} → Result T ℕ → Option (List ℕ) → Option (List ℕ) → List ℕ → Type 0
Adds result old new bytes =
    MatchResult result (λ _. Appends old new bytes)
    (λ n. (n ≤ length bytes) × Appends old new (take n bytes))

-- all of these bytes last after those that did; or, at an error, those last that did
abbrev pub Lasts : {T E : Type 0} → Result T E → Option (List ℕ) → Option (List ℕ) → List ℕ
    → Type 0
Lasts result old new bytes = MatchResult result (λ _. Appends old new bytes) (λ _. Keeps old new)

-- just these bytes are there, where they are known
abbrev pub HasJust : Option (List ℕ) → Option (List ℕ) → Type 0
HasJust has None = ⊤
HasJust has (Some bytes) = has ≡ Some bytes

-- What is there begins with the bytes that last. After them there may be any others: what was added
-- and does not last may be there, or a part of it, or bytes that nobody wrote. Where nothing is known
-- to last, nothing is said: the file may be gone.
abbrev pub BeginsWith : Option (List ℕ) → Option (List ℕ) → Type 0
BeginsWith has None = ⊤
BeginsWith has (Some front) = (tail : List ℕ) × (has ≡ Some (front ++ tail))

-- the file of this name begins with the bytes that last
abbrev pub HasFront : Held → List ℕ → Option (List ℕ) → Type 0
HasFront held name front = BeginsWith (bytes_of held name) front

-- ---- the files of a disk

-- the bytes of the file of this name, where they are known
abbrev pub bytes_in : Option Held → List ℕ → Option (List ℕ)
bytes_in None name = None
bytes_in (Some held) name = bytes_of held name

-- The file of this name is now such a one, by whichever name, and every other file is as it was.
pub record ChangesOnly (was is : Held) (name : List ℕ) (Such : Option (List ℕ) → Type 0) : Type 0
  where
    pub places : (other : List ℕ) → is.place other ≡ was.place other
    pub here : (other : List ℕ) → IsOneFile was name other → Such (bytes_of is other)
    pub others : (other : List ℕ) → (IsOneFile was name other → ⊥)
        → bytes_of is other ≡ bytes_of was other

-- What is left changes so, where it is known; what is not known stays unknown.
abbrev pub Changes : Option Held → Option Held → List ℕ → (Option (List ℕ) → Type 0) → Type 0
Changes None is name Such = is ≡ None
Changes (Some was) None name Such = ⊥
Changes (Some was) (Some is) name Such = ChangesOnly was is name Such

-- the same, or nothing has changed
abbrev pub MayChange : Option Held → Option Held → List ℕ → (Option (List ℕ) → Type 0) → Type 0
MayChange None is name Such = is ≡ None
MayChange (Some was) is name Such = (is ≡ Some was) ⊎ Changes (Some was) is name Such

-- the file of this name is left with these bytes
abbrev pub Leaves : Option Held → Option Held → List ℕ → Option (List ℕ) → Type 0
Leaves was is name contents = Changes was is name (λ has. HasJust has contents)

-- it may be left with these bytes
abbrev pub MayLeave : Option Held → Option Held → List ℕ → Option (List ℕ) → Type 0
MayLeave was is name contents = MayChange was is name (λ has. HasJust has contents)

-- it may be gone
abbrev pub MayRemove : Option Held → Option Held → List ℕ → Type 0
MayRemove was is name = MayChange was is name (λ has. has ≡ None)

-- it is left with a content that begins with the bytes that last
abbrev pub LeavesFront : Option Held → Option Held → List ℕ → Option (List ℕ) → Type 0
LeavesFront was is name lasting = Changes was is name (λ has. BeginsWith has lasting)
