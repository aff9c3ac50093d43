-- The steps of reading a list of locks.
use Rattle.std.specs.Prelude.{◌≡◌, ◌≢◌, ℕ, ◌<◌, ◌+◌, false, List, [], ◌∷◌, ◌++◌, length, Option, Some, None, slice_index}
use Rattle.text_lines.specs.Reading.{is_digit}
use Rattle.folder_of_locks.specs.declared.locks.ListError.{ListError}
use Rattle.folder_of_locks.specs.declared.locks.ListError.TheVariants as refused
use Rattle.lock_protocol.specs.Names.{is_name_byte}
use Rattle.folder_of_locks.specs.Lists.{Listed, IsLockText, AreTexts}

-- a byte that neither a name nor a number has
pub record IsMark (b : ℕ) : Type 0 where
  pub ascii : b < 128
  pub name : is_name_byte b ≡ false
  pub digit : is_digit b ≡ false

-- what comes after a name: nothing, or the mark and this
abbrev pub IsAfterName : ℕ → Option (List ℕ) → List ℕ → Type 0
IsAfterName mark None text = text ≡ []
IsAfterName mark (Some after) text = text ≡ mark ∷ after

-- no byte is this one
pub record IsPlain (b : ℕ) (bytes : List ℕ) : Type 0 where
  pub each : (i : ℕ) → i < length bytes → slice_index bytes i ≢ b

-- the bytes before the first mark, and those after it, if there is one
abbrev pub IsCut : ℕ → List ℕ → List ℕ → Option (List ℕ) → Type 0
IsCut mark text before None = (text ≡ before) × IsPlain mark before
IsCut mark text before (Some after) = (text ≡ before ++ mark ∷ after) × IsPlain mark before

-- the end of a lock's text and the mark between its parts are not the same
pub record AreMarks (end mark : ℕ) : Type 0 where
  pub end_is : IsMark end
  pub mark_is : IsMark mark
  pub apart : end ≢ mark

-- The first locks of some bytes have been read, and this is the rest: whatever comes after the
-- bytes, locks of the rest make locks of the whole with them, and of locks of the whole some are
-- those of the rest.
pub record HasRead (end mark : ℕ) (bytes : List ℕ) (ls : List Listed) (rest : List ℕ) : Type 0
  where
    pub makes : (tail : List ℕ) (more : List Listed) → AreTexts end mark (rest ++ tail) more
        → AreTexts end mark (bytes ++ tail) (ls ++ more)
    pub leaves : (tail : List ℕ) (all : List Listed) → AreTexts end mark (bytes ++ tail) all
        → (more : List Listed)
        × AreTexts end mark (rest ++ tail) more
        × (length all ≡ length ls + length more)

-- nothing of them is left but this rest, in which there is no end
pub record HasReadAll (end mark : ℕ) (bytes : List ℕ) (ls : List Listed) (rest : List ℕ) : Type 0
  where
    pub read : HasRead end mark bytes ls rest
    pub plain : IsPlain end rest

-- why a text is not added as a lock
abbrev pub IsPieceFault : ℕ → List ℕ → ListError → Type 0
IsPieceFault mark text refused.Syntax = (l : Listed) → ¬ IsLockText mark text l
IsPieceFault mark text refused.OutOfMemory = Unit {0}
IsPieceFault mark text _ = ⊥

-- why the bytes are not read: they are the texts of no locks
abbrev pub IsReadFault : ℕ → ℕ → List ℕ → ListError → Type 0
IsReadFault end mark bytes refused.Syntax = (ls : List Listed) → ¬ AreTexts end mark bytes ls
IsReadFault end mark bytes refused.OutOfMemory = Unit {0}
IsReadFault end mark bytes _ = ⊥
