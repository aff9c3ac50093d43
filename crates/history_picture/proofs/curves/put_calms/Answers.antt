use Rattle.std.proofs.Common.{◌≡◌, ℕ, ◌+◌, ◌≤◌, ◌∙◌, Ok, Err, ap, subst, arith}
use Rattle.text_lines.proofs.Writing.{writes_same}
use Rattle.saved_history.specs.Content.{block_of}
use Rattle.history_picture.specs.Picture.{curve_height, shown, calm_shown, calm_in, point}
use Rattle.history_picture.proofs.Texts.{piece_more, piece_fault}
use Rattle.history_picture.proofs.curves.put_calms.Goals as goal

pub returns-in-Err : goal.returns-in-Err
returns-in-Err g c =
    let piece = writes_same _ _ (Err c.in-Err.fault) _ _ (ap (λ (h : ℕ). point c.args.columns h c.loop-column.column c.loop-column.calm) c.requires.height ∙ ap (point c.args.columns (curve_height (block_of c.args.ring.now) c.args.from c.args.columns) c.loop-column.column) c.loop-column.invariant.calm) c.in-Err.ensures in
    piece_fault (λ x. point c.args.columns (curve_height (block_of c.args.ring.now) c.args.from c.args.columns) x (calm_in (block_of c.args.ring.now) c.args.from x)) c.loop-column.column c.args.columns _ _ _ c.in-Err.fault c.loop-column-test.true c.loop-column.invariant.text piece

pub loop-column-preserved : goal.loop-column-preserved
loop-column-preserved g c =
    let piece = writes_same _ _ (Ok c.in-Ok.field-0) _ _ (ap (λ (h : ℕ). point c.args.columns h c.loop-column.column c.loop-column.calm) c.requires.height ∙ ap (point c.args.columns (curve_height (block_of c.args.ring.now) c.args.from c.args.columns) c.loop-column.column) c.loop-column.invariant.calm) c.in-Ok.ensures in
    let further : c.args.from + c.loop-column.column + 1 ≡ c.args.from + (c.loop-column.column + 1) = omega arith in
    record {
      calm = c.calm_on-calm.ensures.calm ∙ ap (calm_shown (block_of c.args.ring.now)) further;
      few = subst (λ (p : ℕ). c.calm_on-calm.result ≤ shown (block_of c.args.ring.now) p) further c.calm_on-calm.ensures.few;
      text = piece_more (λ x. point c.args.columns (curve_height (block_of c.args.ring.now) c.args.from c.args.columns) x (calm_in (block_of c.args.ring.now) c.args.from x)) c.loop-column.column _ _ _ c.loop-column.invariant.text piece;
    }
