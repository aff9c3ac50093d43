use Rattle.std.proofs.Common.{◌≡◌, take}
use Rattle.std.specs.List.{flat_map}
use Rattle.repair_report.specs.Reports.{object_text}
use Rattle.repair_report.proofs.writing.objects_of.Given as goal

abbrev pub invariant-loop-part : goal.invariant-loop-part
invariant-loop-part l = l.text.items ≡ flat_map object_text (take l.part-index l.parts)
