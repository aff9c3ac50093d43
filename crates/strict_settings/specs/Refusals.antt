-- The refusals of settings that are read strictly: the status and the line of each.
use Rattle.std.specs.Prelude.{ℕ, List, ◌++◌, codes, string_bytes}
use Rattle.tool_parts.specs.FaultLines
use Rattle.tool_parts.specs.Faults
use Rattle.tool_parts.specs.OneLine.{one_line}
use Rattle.strict_settings.specs.declared.refusals.StrictRefusal.{StrictRefusal}
use Rattle.strict_settings.specs.declared.refusals.StrictRefusal.TheVariants as strict

-- the exit status after a refusal
abbrev pub status_of : StrictRefusal → ℕ
status_of (strict.Tool e) = Faults.status_of e
status_of (strict.Unread name) = 1

-- the line of a refusal on standard error, without its end: a name in it stays on the line
abbrev pub line_of : StrictRefusal → List ℕ
line_of (strict.Tool e) = FaultLines.line_of e
line_of (strict.Unread name) =
    codes "settings: nothing reads \"" ++ one_line (string_bytes name) ++ codes "\""
