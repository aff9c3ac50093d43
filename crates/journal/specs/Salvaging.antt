-- What is saved of a journal that has a bad line (this project's own).
use Rattle.std.specs.Prelude.{◌≡◌, ℕ, ◌-◌, ◌<◌, ◌≤◌, ◌⊎◌, List, length, take, slice_index, Option, None, Some, Result, Ok, Err}
use Rattle.text_lines.specs.Texts.{line_of}
use Rattle.saved_history.specs.Content.{Content, content}
use Rattle.journal.specs.declared.errors.RecoverError.{RecoverError}
use Rattle.journal.specs.declared.errors.RecoverError.TheVariants.{Truncated, Syntax, Bad, OutOfMemory}
use Rattle.journal.specs.Recovery.{IsRecovered, IsRightRecovery}
use Rattle.journal.specs.declared.salvage.Salvaged.{Salvaged}

-- the line that a refusal names, if it names one
abbrev pub named_line : RecoverError → Option ℕ
named_line Truncated = None
named_line (Syntax line) = Some line
named_line (Bad line kind) = Some line
named_line OutOfMemory = None

-- a line begins at this place
abbrev pub IsLineStart : List ℕ → ℕ → Type 0
IsLineStart bytes place = (place ≡ 0) ⊎ (slice_index bytes (place - 1) ≡ 10)

-- A bad line begins at this place, which the refusal names: with that line, and maybe with more
-- after it, the bytes are refused so.
pub record IsBadFrom (bytes : List ℕ) (place : ℕ) (e : RecoverError) : Type 0 where
  pub line : ℕ
  pub begins : IsLineStart bytes place
  pub number : line_of bytes place ≡ line
  pub named : named_line e ≡ Some line
  pub most : ℕ
  pub longer : place < most
  pub within : most ≤ length bytes
  pub refused : IsRightRecovery (take most bytes) (Err e)

-- nothing is left out after this place, or all from a bad line on that begins there
abbrev pub AreLeftOut : List ℕ → ℕ → Option RecoverError → Type 0
AreLeftOut bytes place None = place ≡ length bytes
AreLeftOut bytes place (Some e) = IsBadFrom bytes place e

-- The history is that of the bytes before a bad line, or of all of them if no line is bad; it
-- is legal.
pub record IsSalvaged (bytes : List ℕ) (kept : ℕ) (bad : Option RecoverError) (c : Content) : Type 0
  where
    pub recovered : IsRecovered (take kept bytes) c
    pub left_out : AreLeftOut bytes kept bad

-- Nothing is saved: the bytes are refused so, and their bad line is in the start of the journal,
-- which the bytes before it do not hold.
pub record IsLost (bytes : List ℕ) (e : RecoverError) : Type 0 where
  pub refused : IsRightRecovery bytes (Err e)
  pub kept : ℕ
  pub bad : Option RecoverError
  pub left_out : AreLeftOut bytes kept bad
  pub short : IsRightRecovery (take kept bytes) (Err Truncated)

-- The right answer, memory aside.
abbrev pub IsRightSalvage : List ℕ → Result Salvaged RecoverError → Type 0
IsRightSalvage bytes (Ok s) = IsSalvaged bytes s.kept s.bad (content s.saved)
IsRightSalvage bytes (Err OutOfMemory) = Unit {0}
IsRightSalvage bytes (Err e) = IsLost bytes e

-- what was first refused, if something was: else all bytes are kept
abbrev pub IsFirstRefusal : List ℕ → ℕ → Option RecoverError → Type 0
IsFirstRefusal bytes kept None = kept ≡ length bytes
IsFirstRefusal bytes kept (Some e) = IsRightRecovery bytes (Err e)

-- the first of some refusals, with one more
abbrev pub first_as : Option RecoverError → RecoverError → RecoverError
first_as None e = e
first_as (Some f) e = f

-- the refusal of bytes of which nothing is saved
abbrev pub lost_as : Option RecoverError → RecoverError → RecoverError
lost_as first OutOfMemory = OutOfMemory
lost_as first e = first_as first e
