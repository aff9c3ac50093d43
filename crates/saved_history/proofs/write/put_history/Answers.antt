use Rattle.text_lines.proofs.Writing.{writes_err}
use Rattle.saved_history.specs.Spelling.{end_line}
use Rattle.saved_history.proofs.ValueParts.{events_text}
use Rattle.saved_history.proofs.write.put_history.Goals as goal

pub returns-in-Err-clause-written : goal.returns-in-Err-clause-written
returns-in-Err-clause-written g c = writes_err _ _ c.in-Err.fault (events_text 0 c.args.events.now) (end_line c.args.said) c.in-Err.ensures.written
