use Rattle.std.specs.Prelude.{codes}
use Rattle.text_lines.specs.Spelling.{row}
use Rattle.text_lines.proofs.Writing.{writes_err}
use Rattle.one_thread_ring.proofs.blocks.put_start.Goals as goal

pub returns-in-Err : goal.returns-in-Err
returns-in-Err g c = writes_err _ _ c.in-Err.fault (codes "start ") (row c.args.start.now.values) c.in-Err.ensures
