use Rattle.std.proofs.Common.{ℕ, ◌+◌, ◌∙◌, Ok, Err, ap}
use Rattle.text_lines.proofs.Writing.{writes_same}
use Rattle.saved_history.specs.Content.{block_of}
use Rattle.history_picture.specs.Picture.{across, mark_of, mark_in}
use Rattle.history_picture.proofs.Texts.{piece_more, piece_fault}
use Rattle.history_picture.proofs.marks.put_marks.Goals as goal

pub returns-in-Err : goal.returns-in-Err
returns-in-Err g c =
    let piece = writes_same _ _ (Err c.in-Err.fault) _ _ (ap (λ (x : ℕ). mark_of c.args.ring.now.n c.args.corruptions x c.event_at-event.result) c.across-x.ensures ∙ ap (mark_of c.args.ring.now.n c.args.corruptions (across (c.args.count + 1) (c.loop-column.column + 1))) c.event_at-event.ensures) c.in-Err.ensures in
    piece_fault (mark_in (block_of c.args.ring.now) c.args.corruptions c.args.from (c.args.count + 1)) c.loop-column.column c.args.count _ _ _ c.in-Err.fault c.loop-column-test.true c.loop-column.invariant.text piece

pub loop-column-preserved : goal.loop-column-preserved
loop-column-preserved g c =
    let piece = writes_same _ _ (Ok c.in-Ok.field-0) _ _ (ap (λ (x : ℕ). mark_of c.args.ring.now.n c.args.corruptions x c.event_at-event.result) c.across-x.ensures ∙ ap (mark_of c.args.ring.now.n c.args.corruptions (across (c.args.count + 1) (c.loop-column.column + 1))) c.event_at-event.ensures) c.in-Ok.ensures in
    record { text = piece_more (mark_in (block_of c.args.ring.now) c.args.corruptions c.args.from (c.args.count + 1)) c.loop-column.column _ _ _ c.loop-column.invariant.text piece }
