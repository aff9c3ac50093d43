use Rattle.std.proofs.Common.{take}
use Rattle.std.specs.List.{flat_map}
use Rattle.std.specs.Io.KnownBytes.{Appends}
use Rattle.repair_texts.specs.Lines.{field_text}
use Rattle.repair_texts.proofs.fields.put_fields.Given as goal

abbrev pub invariant-loop-field : goal.invariant-loop-field
invariant-loop-field g l = Appends (g.W.Write.contents l.initial.out) (g.W.Write.contents l.out) (flat_map field_text (take l.field-index l.fields))
