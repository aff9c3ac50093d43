use Rattle.std.proofs.Common.{◌≡◌, ◌++◌, take, map}
use Rattle.repair_report.specs.Reports.{row_of}
use Rattle.repair_report.proofs.parts.add_rows.Given as goal

abbrev pub invariant-loop-part : goal.invariant-loop-part
invariant-loop-part l = l.rows.items ≡ l.initial.rows.items ++ map row_of (take l.part-index l.parts)
