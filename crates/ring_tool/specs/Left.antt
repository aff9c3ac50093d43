-- What has left the buffer of standard output, and what is on standard error, at the end of a
-- run.
use Rattle.std.specs.Prelude.{◌≡◌, ◌<◌, ◌⊎◌, ℕ, List, ◌++◌, length, Bool, true, false, codes, Option}
use Rattle.std.specs.Io.KnownBytes.{Keeps, Appends, append_known}
use Rattle.tool_parts.specs.FaultLines.{line_of}
use Rattle.tool_parts.specs.Written.{AppendsFront}
use Rattle.tool_parts.specs.declared.faults.ToolError.{ToolError}
use Rattle.tool_parts.specs.declared.faults.ToolError.TheVariants as tool

-- what was printed is in the output below the buffer, except for the rest
abbrev pub LacksRest : Option (List ℕ) → Option (List ℕ) → List ℕ → Type 0
LacksRest printed out rest = Keeps printed (append_known out rest)

-- the output below has a prefix of what was printed
abbrev pub HasFront : Option (List ℕ) → Option (List ℕ) → Type 0
HasFront printed out = (rest : List ℕ) × LacksRest printed out rest

-- the output below lacks a byte at least of what was printed
abbrev pub IsCut : Option (List ℕ) → Option (List ℕ) → Type 0
IsCut printed out = (rest : List ℕ) × (0 < length rest) × LacksRest printed out rest

-- whether all that was printed has left: each byte is in the output below, or one is missing there
abbrev pub HasLeft : Option (List ℕ) → Option (List ℕ) → Bool → Type 0
HasLeft printed out true = Keeps printed out
HasLeft printed out false = IsCut printed out

-- standard error has the text after what it had, or only a front of it
abbrev pub HasText : List ℕ → Bool → Option (List ℕ) → Option (List ℕ) → Type 0
HasText text true old new = Appends old new text
HasText text false old new = AppendsFront old new text

-- the text is this line, with its end
abbrev pub IsLine : List ℕ → List ℕ → Type 0
IsLine line text = text ≡ line ++ codes "\n"

-- standard error has this line after what it had, or only a front of it; without memory for it, it
-- is the line of a lack of memory
abbrev pub SaysLine : List ℕ → Bool → Option (List ℕ) → Option (List ℕ) → Type 0
SaysLine line told old new =
    (text : List ℕ)
    × (IsLine line text ⊎ IsLine (line_of tool.OutOfMemory) text)
    × HasText text told old new

-- standard error has the line of a refusal after what it had
abbrev pub HasLine : ToolError → Bool → Option (List ℕ) → Option (List ℕ) → Type 0
HasLine e = SaysLine (line_of e)

-- How a run ends that was answered. Status 0: every byte that was printed is in the output below,
-- and standard error is as it was. Status 1: a byte is missing there, and standard error has the
-- line of that.
pub record HasEndedAnswered (status : ℕ) (told : Bool) (printed out said err : Option (List ℕ))
    : Type 0 where
  pub whole : status ≡ 0 → Keeps printed out × (err ≡ said)
  pub cut : status ≡ 1 → IsCut printed out × HasLine tool.Write told said err
