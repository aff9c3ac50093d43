use Rattle.text_lines.proofs.Writing.{pieces_fault}
use Rattle.repair_texts.specs.Lines.{field_text}
use Rattle.repair_texts.proofs.fields.put_fields.Goals as goal

pub returns-in-Err : goal.returns-in-Err
returns-in-Err g c = pieces_fault _ field_text c.args.fields.now c.loop-field.field-index _ c.loop-field-test.true _ _ _ c.loop-field.invariant c.in-Err.fault c.in-Err.ensures
