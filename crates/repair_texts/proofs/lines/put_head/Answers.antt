use Rattle.text_lines.proofs.Writing.{writes_err}
use Rattle.repair_texts.specs.Lines.{size_text, start_text}
use Rattle.repair_texts.proofs.lines.put_head.Goals as goal

pub returns-in-Err : goal.returns-in-Err
returns-in-Err g c = writes_err _ _ c.in-Err.fault (size_text c.args.head.now) (start_text c.args.head.now.start.now c.args.head.now.faults) c.in-Err.ensures
