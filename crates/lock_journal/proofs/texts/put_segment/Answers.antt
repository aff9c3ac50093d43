use Rattle.std.specs.Prelude.{IfOk, Result, Ok, Err}
use Rattle.text_lines.proofs.Writing.{writes_then, writes_err}
use Rattle.journal.specs.Spelling.{journal_head}
use Rattle.segment_files.specs.Spelling.{head_of, head_text, HeadFits}
use Rattle.lock_journal.specs.Segments.{content_of, BlocksFit}
use Rattle.lock_journal.proofs.texts.put_segment.Goals as goal

pub returns-in-Ok-clause-written : goal.returns-in-Ok-clause-written
returns-in-Ok-clause-written g c =
    writes_then (g.W.Write.contents c.args.out.now) (g.W.Write.contents c.put_head.new.out) (g.W.Write.contents c.put_beginning.new.out) c.put_beginning.result (head_text (head_of c.args.head.now)) (journal_head (content_of c.args.locks.now)) c.in-Ok.ensures.written c.put_beginning.ensures.written

pub returns-in-Err-clause-written : goal.returns-in-Err-clause-written
returns-in-Err-clause-written g c = writes_err (g.W.Write.contents c.args.out.now) (g.W.Write.contents c.put_head.new.out) c.in-Err.fault (head_text (head_of c.args.head.now)) (journal_head (content_of c.args.locks.now)) c.in-Err.ensures.written

both_ok : {E : Type 0} (A B : Type 0) (r : Result (Unit {0}) E) → A → IfOk r (λ u. B) → IfOk r (λ u. A × B)
both_ok A B (Ok u) a b = (a, b)
both_ok A B (Err e) a b = tt

pub returns-in-Ok-clause-fits : goal.returns-in-Ok-clause-fits
returns-in-Ok-clause-fits g c = both_ok (HeadFits (head_of c.args.head.now)) (BlocksFit c.args.locks.now) c.put_beginning.result c.in-Ok.ensures.fits c.put_beginning.ensures.fits
