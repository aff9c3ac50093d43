use Rattle.text_lines.proofs.Writing.{writes_then, writes_err}
use Rattle.journal.specs.Spelling.{journal_head}
use Rattle.segment_files.specs.Spelling.{head_of, head_text}
use Rattle.ring_service.specs.Saved.{content_of}
use Rattle.ring_service.proofs.texts.put_segment.Goals as goal

pub returns-in-Ok : goal.returns-in-Ok
returns-in-Ok g c =
    writes_then (g.W.Write.contents c.args.out.now) (g.W.Write.contents c.put_head.new.out) (g.W.Write.contents c.put_beginning.new.out) c.put_beginning.result (head_text (head_of c.args.head.now)) (journal_head (content_of c.args.served.now)) c.in-Ok.ensures.written c.put_beginning.ensures

pub returns-in-Err : goal.returns-in-Err
returns-in-Err g c = writes_err (g.W.Write.contents c.args.out.now) (g.W.Write.contents c.put_head.new.out) c.in-Err.fault (head_text (head_of c.args.head.now)) (journal_head (content_of c.args.served.now)) c.in-Err.ensures.written
