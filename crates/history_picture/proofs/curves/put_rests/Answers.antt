use Rattle.std.proofs.Common.{◌≡◌, ℕ, ◌+◌, ◌∙◌, Ok, Err, ap, arith}
use Rattle.text_lines.proofs.Writing.{writes_same}
use Rattle.ring_model.specs.Ring.{Ring, rest}
use Rattle.saved_history.specs.Content.{block_of}
use Rattle.history_picture.specs.Picture.{curve_height, ring_shown, rest_in, point}
use Rattle.history_picture.proofs.Texts.{piece_more, piece_fault}
use Rattle.history_steps.proofs.Places.{named}
use Rattle.history_picture.proofs.curves.put_rests.Goals as goal

pub rest-requires : goal.rest-requires
rest-requires g c = c.loop-column.invariant.ring.gauge

pub returns-in-Err : goal.returns-in-Err
returns-in-Err g c =
    let here : c.rest.result ≡ rest_in (block_of c.args.ring.now) c.args.from c.loop-column.column =
    c.rest.ensures ∙ ap (λ (r : Ring). rest r) c.loop-column.invariant.ring.same in
    let piece = writes_same _ _ (Err c.in-Err.fault) _ _ (ap (λ (h : ℕ). point c.args.columns h c.loop-column.column c.rest.result) c.requires.height ∙ ap (point c.args.columns (curve_height (block_of c.args.ring.now) c.args.from c.args.columns) c.loop-column.column) here) c.in-Err.ensures in
    piece_fault (λ x. point c.args.columns (curve_height (block_of c.args.ring.now) c.args.from c.args.columns) x (rest_in (block_of c.args.ring.now) c.args.from x)) c.loop-column.column c.args.columns _ _ _ c.in-Err.fault c.loop-column-test.true c.loop-column.invariant.text piece

pub loop-column-preserved : goal.loop-column-preserved
loop-column-preserved g c =
    let here : c.rest.result ≡ rest_in (block_of c.args.ring.now) c.args.from c.loop-column.column =
    c.rest.ensures ∙ ap (λ (r : Ring). rest r) c.loop-column.invariant.ring.same in
    let piece = writes_same _ _ (Ok c.in-Ok.field-0) _ _ (ap (λ (h : ℕ). point c.args.columns h c.loop-column.column c.rest.result) c.requires.height ∙ ap (point c.args.columns (curve_height (block_of c.args.ring.now) c.args.from c.args.columns) c.loop-column.column) here) c.in-Ok.ensures in
    let further : c.args.from + c.loop-column.column + 1 ≡ c.args.from + (c.loop-column.column + 1) = omega arith in
    record {
      ring = named c.args.ring.now _ _ c.go_on.new.gauge (ap (ring_shown (block_of c.args.ring.now)) further) c.go_on.ensures;
      text = piece_more (λ x. point c.args.columns (curve_height (block_of c.args.ring.now) c.args.from c.args.columns) x (rest_in (block_of c.args.ring.now) c.args.from x)) c.loop-column.column _ _ _ c.loop-column.invariant.text piece;
    }
