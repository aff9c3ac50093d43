use Rattle.text_lines.proofs.Writing.{writes_then, writes_err}
use Rattle.saved_history.specs.Spelling.{text}
use Rattle.journal.specs.Spelling.{first_line}
use Rattle.ring_service.specs.Saved.{content_of}
use Rattle.ring_service.proofs.texts.put_beginning.Goals as goal

pub returns-in-Ok : goal.returns-in-Ok
returns-in-Ok g c =
    writes_then (g.W.Write.contents c.args.out.now) (g.W.Write.contents c.put_first_line.new.out) (g.W.Write.contents c.write_rings.new.out) c.write_rings.result first_line (text (content_of c.args.served.now)) c.in-Ok.ensures c.write_rings.ensures.written

pub returns-in-Err : goal.returns-in-Err
returns-in-Err g c = writes_err (g.W.Write.contents c.args.out.now) (g.W.Write.contents c.put_first_line.new.out) c.in-Err.fault first_line (text (content_of c.args.served.now)) c.in-Err.ensures
