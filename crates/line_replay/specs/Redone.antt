-- What a start does again of a segment's lines, which may be cut anywhere (this project's own).
use Rattle.std.specs.Prelude.{◌≡◌, ◌≢◌, ◌⊎◌, ℕ, suc, ◌+◌, ◌≤◌, true, false, List, [], ◌∷◌, ◌++◌, length, drop}
use Rattle.line_replay.specs.Machines.{Machine, after}
use Rattle.line_replay.specs.Following.{BeginsWithNote, CanFollow, BeginApart}
use Rattle.line_replay.specs.declared.replaying.Replay.{Replay}
use Rattle.line_replay.specs.declared.replaying.ReplayError.{ReplayError}
use Rattle.line_replay.specs.declared.replaying.ReplayError.TheVariants as error

module _ (M : Machine) where
  -- These lines are done again, one after the other, where n were noted before: of each the note is
  -- there, and it changes something, and what it notes is there. Of the last one the end of that may
  -- be missing. What is torn comes after all that.
  abbrev pub AreRedone : ℕ → M.State → List ℕ → List (List ℕ) → List ℕ → List ℕ → Type 0
  AreRedone n s bytes [] missing torn = (missing ≡ []) × (bytes ≡ torn)
  AreRedone n s bytes (line ∷ lines) missing torn =
      (rest : List ℕ)
      × BeginsWithNote (suc n) line rest bytes
      × (M.changes s line ≡ true)
      × (((more : List ℕ)
      × (rest ≡ M.notes s line ++ more)
      × AreRedone (suc n) (M.does s line) more lines missing torn)
      ⊎ ((lines ≡ [])
      × (missing ≢ [])
      × (part : List ℕ)
      × (rest ≡ part ++ torn)
      × (M.notes s line ≡ part ++ missing)))

  -- The lines that were done again of these bytes, where n were noted before; this is kept of the
  -- bytes, what is missing of the last line's notes comes after it, and no note that can follow is
  -- left out.
  pub record IsReplayed (n : ℕ) (s : M.State) (bytes : List ℕ) (r : Replay) (t : M.State) : Type 0
    where
      pub lines : List (List ℕ)
      pub redone : AreRedone n s bytes lines r.missing.items (drop r.kept bytes)
      pub state : t ≡ after M s lines
      pub count : r.count ≡ n + length lines
      pub within : r.kept ≤ length bytes
      pub apart : BeginApart r.missing.items (drop r.kept bytes)
      pub none : ¬ CanFollow r.count (drop r.kept bytes)

  -- From this place on the bytes are not what the next line leaves: what is missing of the last line
  -- is not there, or no next note is; and a note that can follow is.
  pub record IsDamaged (n : ℕ) (s : M.State) (bytes : List ℕ) (place : ℕ) : Type 0 where
    pub lines : List (List ℕ)
    pub missing : List ℕ
    pub redone : AreRedone n s bytes lines missing (drop place bytes)
    pub apart : BeginApart missing (drop place bytes)
    pub other : missing ≡ [] → (line rest : List ℕ)
        → ¬ BeginsWithNote (suc (n + length lines)) line rest (drop place bytes)
    pub some : CanFollow (n + length lines) (drop place bytes)

  -- At this place there is the next note, and its line changes nothing.
  pub record IsIdle (n : ℕ) (s : M.State) (bytes : List ℕ) (place : ℕ) : Type 0 where
    pub lines : List (List ℕ)
    pub line : List ℕ
    pub rest : List ℕ
    pub redone : AreRedone n s bytes lines [] (drop place bytes)
    pub note : BeginsWithNote (suc (n + length lines)) line rest (drop place bytes)
    pub idle : M.changes (after M s lines) line ≡ false

  abbrev pub IsRefused : ℕ → M.State → List ℕ → ReplayError → Type 0
  IsRefused n s bytes (error.Damaged place) = IsDamaged n s bytes place
  IsRefused n s bytes (error.Idle place) = IsIdle n s bytes place
  IsRefused n s bytes error.OutOfMemory = Unit {0}

-- ---- where the lines end that are done again

-- These bytes at the end are torn, and this is missing before them.
pub record EndsSo (count : ℕ) (bytes torn missing : List ℕ) (r : Replay) : Type 0 where
  pub counts : r.count ≡ count
  pub misses : r.missing.items ≡ missing
  pub within : r.kept ≤ length bytes
  pub keeps : drop r.kept bytes ≡ torn
  pub none : ¬ CanFollow count torn

-- A note that can follow is in them; or there is no memory.
abbrev pub EndIsRefused : ℕ → List ℕ → List ℕ → ReplayError → Type 0
EndIsRefused count bytes torn (error.Damaged place) =
    (drop place bytes ≡ torn) × CanFollow count torn
EndIsRefused count bytes torn (error.Idle place) = ⊥
EndIsRefused count bytes torn error.OutOfMemory = Unit {0}
