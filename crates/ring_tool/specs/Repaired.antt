-- How `repairs` ends: its status, exactly by what was done.
use Rattle.std.specs.Prelude.{◌≡◌, ◌≤◌, ℕ, List, Bool, Option, None, ◌⊎◌}
use Rattle.std.specs.Io.KnownBytes.{Keeps}
use Rattle.repair_commands.specs.Repaired.{IsRepairsAnswer, IsRepairsRefusal}
use Rattle.repair_requests.specs.Refusals.{line_of}
use Rattle.repair_requests.specs.declared.refusals.Refusal.{Refusal}
use Rattle.repair_requests.specs.declared.words.RepairsWords.{RepairsWords}
use Rattle.tool_parts.specs.Worlds.{World, world}
use Rattle.tool_parts.specs.declared.faults.ToolError.TheVariants as tool
use Rattle.ring_tool.specs.Left.{HasFront, IsCut, HasLine, SaysLine}

-- the files of a world, where this was printed
abbrev pub files_with : World → Option (List ℕ) → World
files_with w printed = world w.files None printed None

-- It was answered, and every byte of the answer is in the output; standard error is as it was.
abbrev pub IsRepaired : RepairsWords → World → World → Type 0
IsRepaired words was is =
    (printed : Option (List ℕ))
    × IsRepairsAnswer words (files_with was was.out) (files_with is printed)
    × Keeps printed is.out
    × (is.err ≡ was.err)

-- it was answered, but a byte of the answer is missing in the output, and standard error has the
-- line of that
abbrev pub IsRepairedInPart : RepairsWords → Bool → World → World → Type 0
IsRepairedInPart words told was is =
    (printed : Option (List ℕ))
    × IsRepairsAnswer words (files_with was was.out) (files_with is printed)
    × IsCut printed is.out
    × HasLine tool.Write told was.err is.err

-- it was refused for this cause, and standard error has its line
abbrev pub IsUnrepaired : RepairsWords → Refusal → Bool → World → World → Type 0
IsUnrepaired words e told was is =
    (printed : Option (List ℕ))
    × IsRepairsRefusal words (files_with was was.out) (files_with is printed) e
    × HasFront printed is.out
    × SaysLine (line_of e) told was.err is.err

-- Status 0: it was answered, with every byte. Status 1: with a byte missing, or it was refused.
pub record HasRepaired (words : RepairsWords) (status : ℕ) (told : Bool) (was is : World) : Type 0
  where
    pub most : status ≤ 1
    pub done : status ≡ 0 → IsRepaired words was is
    pub failed : status ≡ 1
        → IsRepairedInPart words told was is
        ⊎ ((e : Refusal) × IsUnrepaired words e told was is)
