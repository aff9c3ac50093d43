use Rattle.std.proofs.Common.{◌++◌, ◌∙◌, List, length, map, ap, arith, Ok, Err}
use Rattle.text_lines.proofs.Writing.{writes_then, writes_err, writes_same}
use Rattle.ring_model.specs.declared.events.Event.{Event}
use Rattle.saved_history.specs.Content.{block_of}
use Rattle.ring_check.specs.Table.{event_of}
use Rattle.ring_text.specs.Report.{counts_line, end_lines}
use Rattle.ring_text.specs.SavedReport.{block_counts, book_of, seats_line}
use Rattle.ring_text.proofs.Ends.{ends_of, counts_same}
use Rattle.ring_text.proofs.report_rings.put_ring.Goals as goal

pub returns-in-Ok-put_end : goal.returns-in-Ok-put_end
returns-in-Ok-put_end g c =
    let b = block_of c.args.ring.now in
    let counts = writes_same _ _ (Ok c.in-Ok.field-0) _ _ (counts_same c.args.ring.now c.len.result c.counts_of-counts.result (omega (arith, c.args.ring.now.start.ok.0, c.len.ensures)) c.counts_of-counts.ensures) c.in-Ok.ensures in
    let ends = writes_same _ _ (Ok c.in-Ok-put_end.field-0) _ _ (ends_of c.args.book.now b c.requires.start c.requires.history) c.in-Ok-put_end.ensures in
    let seats = writes_same _ _ c.put_seats_line.result _ _ (ap (λ (h : List Event). seats_line h c.deref.result.now) (c.history-in-Ok-put_end.ensures.is ∙ c.requires.history) ∙ ap (seats_line (map event_of b.events)) c.deref.ensures.value) c.put_seats_line.ensures in
    writes_then _ _ _ _ (counts_line b.index (length b.start) b.k (block_counts b)) (end_lines (book_of b) ++ seats_line (map event_of b.events) b.surveys) counts
    (writes_then _ _ _ _ (end_lines (book_of b)) (seats_line (map event_of b.events) b.surveys) ends seats)

pub returns-in-Err-put_end : goal.returns-in-Err-put_end
returns-in-Err-put_end g c =
    let b = block_of c.args.ring.now in
    let counts = writes_same _ _ (Ok c.in-Ok.field-0) _ _ (counts_same c.args.ring.now c.len.result c.counts_of-counts.result (omega (arith, c.args.ring.now.start.ok.0, c.len.ensures)) c.counts_of-counts.ensures) c.in-Ok.ensures in
    let ends = writes_same _ _ (Err c.in-Err-put_end.fault) _ _ (ends_of c.args.book.now b c.requires.start c.requires.history) c.in-Err-put_end.ensures in
    writes_then _ _ _ (Err c.in-Err-put_end.fault) (counts_line b.index (length b.start) b.k (block_counts b)) (end_lines (book_of b) ++ seats_line (map event_of b.events) b.surveys) counts
    (writes_err _ _ c.in-Err-put_end.fault (end_lines (book_of b)) (seats_line (map event_of b.events) b.surveys) ends)

pub returns-in-Err : goal.returns-in-Err
returns-in-Err g c =
    let b = block_of c.args.ring.now in
    let counts = writes_same _ _ (Err c.in-Err.fault) _ _ (counts_same c.args.ring.now c.len.result c.counts_of-counts.result (omega (arith, c.args.ring.now.start.ok.0, c.len.ensures)) c.counts_of-counts.ensures) c.in-Err.ensures in
    writes_err _ _ c.in-Err.fault (counts_line b.index (length b.start) b.k (block_counts b)) (end_lines (book_of b) ++ seats_line (map event_of b.events) b.surveys) counts
