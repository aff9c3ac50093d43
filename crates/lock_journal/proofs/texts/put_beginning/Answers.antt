use Rattle.text_lines.proofs.Writing.{writes_then, writes_err}
use Rattle.saved_history.specs.Spelling.{text}
use Rattle.journal.specs.Spelling.{first_line}
use Rattle.lock_journal.specs.Segments.{content_of}
use Rattle.lock_journal.proofs.texts.put_beginning.Goals as goal

pub returns-in-Ok-clause-written : goal.returns-in-Ok-clause-written
returns-in-Ok-clause-written g c =
    writes_then (g.W.Write.contents c.args.out.now) (g.W.Write.contents c.put_first_line.new.out) (g.W.Write.contents c.put_rings.new.out) c.put_rings.result first_line (text (content_of c.args.locks.now)) c.in-Ok.ensures c.put_rings.ensures.written

pub returns-in-Err-clause-written : goal.returns-in-Err-clause-written
returns-in-Err-clause-written g c = writes_err (g.W.Write.contents c.args.out.now) (g.W.Write.contents c.put_first_line.new.out) c.in-Err.fault first_line (text (content_of c.args.locks.now)) c.in-Err.ensures
