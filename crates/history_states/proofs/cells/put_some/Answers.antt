use Rattle.std.specs.Fmt.{decimal}
use Rattle.history_states.specs.Cells.{name_text}
use Rattle.text_lines.proofs.Writing.{writes_err}
use Rattle.history_states.proofs.cells.put_some.Goals as goal

pub returns-in-Err : goal.returns-in-Err
returns-in-Err g c = writes_err _ _ c.in-Err.fault (name_text c.args.form c.args.name.now) (decimal c.args.number) c.in-Err.ensures
