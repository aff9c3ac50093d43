use Rattle.std.specs.Prelude.{codes}
use Rattle.std.specs.List.{flat_map}
use Rattle.text_lines.proofs.Writing.{writes_err}
use Rattle.repair_texts.specs.Lines.{field_text}
use Rattle.repair_texts.proofs.fields.put_rest.Goals as goal

pub returns-in-Err : goal.returns-in-Err
returns-in-Err g c = writes_err _ _ c.in-Err.fault (flat_map field_text c.args.fields.now) (codes "\n") c.in-Err.ensures
