use Rattle.std.proofs.Common.{take, Some}
use Rattle.tool_parts.specs.Outside.{IsNoneOf}
use Rattle.tool_parts.proofs.outside.keep_entries_apart.Given as goal

abbrev pub invariant-loop-entry : goal.invariant-loop-entry
invariant-loop-entry g l = IsNoneOf (g.D.Disk.holds l.disk) l.folder (take l.entry-index l.entries) (Some l.made)
