use Rattle.std.proofs.Common.{◌≡◌, ◌++◌, take}
use Rattle.std.specs.List.{flat_map}
use Rattle.repair_texts.specs.Columns.{heading, record_of}
use Rattle.repair_commands.proofs.tables.table_of.Given as goal

abbrev pub invariant-loop-row : goal.invariant-loop-row
invariant-loop-row l = l.text.items ≡ heading ++ flat_map record_of (take l.row-index l.rows)
