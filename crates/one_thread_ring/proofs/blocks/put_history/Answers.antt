use Rattle.text_lines.proofs.Writing.{writes_err}
use Rattle.saved_history.specs.Spelling.{end_line}
use Rattle.one_thread_ring.proofs.SavedParts.{events_text}
use Rattle.std.proofs.Common.{length}
use Rattle.one_thread_ring.proofs.blocks.put_history.Goals as goal

pub returns-in-Err-clause-written : goal.returns-in-Err-clause-written
returns-in-Err-clause-written g c = writes_err _ _ c.in-Err.fault (events_text 0 c.args.history.now) (end_line (length c.args.history.now)) c.in-Err.ensures.written
