use Rattle.text_lines.specs.Spelling.{list_text}
use Rattle.text_lines.proofs.Writing.{writes_err}
use Rattle.ring_text.proofs.farm_report.put_worded_list.Goals as goal

pub returns-in-Err : goal.returns-in-Err
returns-in-Err g c = λ numbers are. writes_err _ _ c.in-Err.fault c.args.word.now (list_text numbers) c.in-Err.ensures
