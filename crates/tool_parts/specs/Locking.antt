-- What a process does to lock a folder, or a file that it writes at its end, and what keeps it from that.
use Rattle.std.specs.Prelude.{◌≡◌, ◌⊎◌, ℕ, List, Bool, true, Option, Some, codes}
use Rattle.disks.specs.Held.{Held, is_locked, Creates, Locks}
use Rattle.disks.specs.Folders.{path_in}
use Rattle.tool_parts.specs.declared.faults.ToolError.{ToolError}
use Rattle.tool_parts.specs.declared.faults.ToolError.TheVariants as tool

-- the journal's file cannot be opened: another process has it, or it cannot be had
abbrev pub IsUnopenedJournal : List ℕ → ToolError → Type 0
IsUnopenedJournal name (tool.InUse named) = named.now ≡ name
IsUnopenedJournal name (tool.Save named) = named.now ≡ name
IsUnopenedJournal name _ = ⊥

-- the name of the folder's lock
abbrev pub lock_of : List ℕ → List ℕ
lock_of folder = path_in folder (codes "lock")

-- the file of the folder's lock was there, or was made, empty
abbrev pub HasLockFile : Option Held → Option Held → List ℕ → Type 0
HasLockFile before there folder = (made : Bool) × Creates before there (lock_of folder) made

-- The same, and then it was locked: nobody else can lock it, or serve the folder, from then on.
abbrev pub IsLocked : Option Held → Option Held → List ℕ → Type 0
IsLocked before there folder =
    (made : Option Held) × HasLockFile before made folder × Locks made there (lock_of folder)

-- what files hold is known, and the folder is locked
abbrev pub StandsLocked : Option Held → List ℕ → Type 0
StandsLocked files folder =
    (held : Held) × (files ≡ Some held) × (is_locked held (lock_of folder) ≡ true)

-- the folder is kept by another process, or its lock or a segment cannot be had
abbrev pub IsUnkeptFolder : List ℕ → ToolError → Type 0
IsUnkeptFolder folder (tool.InUse named) = named.now ≡ folder
IsUnkeptFolder folder (tool.Save named) = named.now ≡ folder
IsUnkeptFolder folder tool.OutOfMemory = Unit {0}
IsUnkeptFolder folder _ = ⊥

-- the lock is not had, and its file is as it was, or was made, empty
abbrev pub IsLockLeft : Option Held → Option Held → List ℕ → Type 0
IsLockLeft before after folder = (after ≡ before) ⊎ HasLockFile before after folder
