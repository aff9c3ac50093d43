use Rattle.std.proofs.Common.{take}
use Rattle.std.specs.List.{flat_map}
use Rattle.std.specs.Io.KnownBytes.{Appends}
use Rattle.repair_report.specs.Reports.{line_of}
use Rattle.repair_report.proofs.writing.put_lines.Given as goal

abbrev pub invariant-loop-part : goal.invariant-loop-part
invariant-loop-part g l = Appends (g.W.Write.contents l.initial.out) (g.W.Write.contents l.out) (flat_map line_of (take l.part-index l.parts))
