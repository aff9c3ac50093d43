use Rattle.text_lines.specs.Spelling.{numbers_text}
use Rattle.history_states.specs.Cells.{opening, between, closing}
use Rattle.text_lines.proofs.Writing.{writes_err}
use Rattle.history_states.proofs.cells.put_whole_list.Goals as goal

pub returns-in-Err : goal.returns-in-Err
returns-in-Err g c = writes_err _ _ c.in-Err.fault (opening c.args.form) (numbers_text (between c.args.form) (closing c.args.form) c.args.numbers.now) c.in-Err.ensures
