use Rattle.text_lines.proofs.Writing.{writes_err}
use Rattle.history_motion.specs.Motion.{bar, legend}
use Rattle.history_motion.proofs.page.put_below.Goals as goal

pub returns-in-Err : goal.returns-in-Err
returns-in-Err g c = writes_err _ _ c.in-Err.fault (bar c.args.from c.args.count) legend c.in-Err.ensures
