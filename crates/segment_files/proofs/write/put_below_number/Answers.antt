use Rattle.std.specs.List.{flat_map}
use Rattle.text_lines.proofs.Writing.{writes_err}
use Rattle.segment_files.specs.Spelling.{behind_line, base_line}
use Rattle.segment_files.proofs.write.put_below_number.Goals as goal

pub returns-in-Err-clause-written : goal.returns-in-Err-clause-written
returns-in-Err-clause-written g c = writes_err _ _ c.in-Err.fault (behind_line c.args.digits.now) (flat_map base_line c.args.bases.now) c.in-Err.ensures
