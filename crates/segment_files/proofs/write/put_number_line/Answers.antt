use Rattle.std.specs.Prelude.{codes, ◌++◌}
use Rattle.text_lines.specs.Spelling.{spaced, ended}
use Rattle.text_lines.proofs.Writing.{writes_then, writes_err}
use Rattle.segment_files.proofs.write.put_number_line.Goals as goal

pub returns-in-Ok : goal.returns-in-Ok
returns-in-Ok g c = writes_then _ _ _ c.put_counts.result (codes "ringsegment 1 ") (spaced c.args.number ++ ended c.args.rings) c.in-Ok.ensures c.put_counts.ensures

pub returns-in-Err : goal.returns-in-Err
returns-in-Err g c = writes_err _ _ c.in-Err.fault (codes "ringsegment 1 ") (spaced c.args.number ++ ended c.args.rings) c.in-Err.ensures
