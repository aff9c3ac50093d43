use Rattle.std.proofs.Common.{◌++◌}
use Rattle.text_lines.specs.Spelling.{numbers_text}
use Rattle.history_states.specs.Cells.{name_text, opening, between, closing}
use Rattle.text_lines.proofs.Writing.{writes_err}
use Rattle.history_states.proofs.cells.put_listed.Goals as goal

pub returns-in-Err : goal.returns-in-Err
returns-in-Err g c = writes_err _ _ c.in-Err.fault (name_text c.args.form c.args.name.now) (opening c.args.form ++ numbers_text (between c.args.form) (closing c.args.form) c.args.numbers.now) c.in-Err.ensures
