use Rattle.history_states.specs.Cells.{name_text, quoted}
use Rattle.text_lines.proofs.Writing.{writes_err}
use Rattle.history_states.proofs.cells.put_word.Goals as goal

pub returns-in-Err : goal.returns-in-Err
returns-in-Err g c = writes_err _ _ c.in-Err.fault (name_text c.args.form c.args.name.now) (quoted c.args.form c.args.word.now) c.in-Err.ensures
