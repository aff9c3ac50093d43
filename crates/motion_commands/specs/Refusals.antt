-- The refusals of `picture --animate`: the status and the line of each.
use Rattle.std.specs.Prelude.{ℕ, List, ◌++◌, codes, Bool, false, cond}
use Rattle.std.specs.Fmt.{decimal}
use Rattle.tool_parts.specs.FaultLines
use Rattle.tool_parts.specs.Faults
use Rattle.motion_commands.specs.declared.refusals.Refusal.{Refusal}
use Rattle.motion_commands.specs.declared.refusals.Refusal.TheVariants as refusal

-- whether it is that of a list that cannot be read
abbrev pub is_bad_list : Refusal → Bool
is_bad_list (refusal.Tool e) = Faults.is_bad_list e
is_bad_list (refusal.ManyMachines place) = false

-- the exit status after a refusal: 2 where a list cannot be read, else 1
abbrev pub status_of : Refusal → ℕ
status_of e = cond (is_bad_list e) 2 1

-- the line of a refusal on standard error, without its end
abbrev pub line_of : Refusal → List ℕ
line_of (refusal.Tool e) = FaultLines.line_of e
line_of (refusal.ManyMachines place) =
    codes "ring " ++ decimal place ++ codes ": a picture in motion has at most 32 machines"
