use Rattle.text_lines.proofs.Writing.{writes_err}
use Rattle.segment_files.specs.Spelling.{head_of, head_text}
use Rattle.folder_commands.proofs.last_segment.put_head_and_place.Goals as goal

pub returns-in-Err : goal.returns-in-Err
returns-in-Err g c = writes_err _ _ c.in-Err.fault (head_text (head_of c.args.head.now)) c.args.place.now c.in-Err.ensures.written
