use Rattle.std.proofs.Common.{ℕ, ◌∙◌, ◌++◌, Ok, Err, ap}
use Rattle.std.proofs.lemmas.Result.{err_from_is_err_and}
use Rattle.text_lines.proofs.Writing.{writes_then, writes_err, writes_same}
use Rattle.ring_model.specs.Ring.{bound}
use Rattle.saved_history.specs.Content.{block_of}
use Rattle.history_picture.specs.Picture.{curve_height, curves_opening, rest_points, calm_opening, calm_points, ending_text}
use Rattle.history_picture.proofs.Texts.{writes_second}
use Rattle.history_picture.proofs.picture.put_lower.Goals as goal

pub returns-in_err-put_curves_opening : goal.returns-in_err-put_curves_opening
returns-in_err-put_curves_opening g c =
    let b = block_of c.args.ring.now in
    let opening = curves_opening (curve_height b c.args.from c.args.columns) (bound b.n) in
    let rests = rest_points b c.args.from c.args.columns in
    let calms = calm_points b c.args.from c.args.columns in
    let fault = c.in_err-put_curves_opening.field-0.0 in
    let here = writes_same _ _ (Err fault) (curves_opening c.args.height c.bound.result) opening (ap (λ (h : ℕ). curves_opening h c.bound.result) c.requires.height ∙ ap (curves_opening (curve_height b c.args.from c.args.columns)) c.bound.ensures) c.in_err-put_curves_opening.ensures in
    rw (err_from_is_err_and c.from_residual.result c.from_residual.ensures.1).1
    (writes_err _ _ fault opening (rests ++ (calm_opening ++ (calms ++ ending_text))) here)

pub returns-in_err-put_rests : goal.returns-in_err-put_rests
returns-in_err-put_rests g c =
    let b = block_of c.args.ring.now in
    let opening = curves_opening (curve_height b c.args.from c.args.columns) (bound b.n) in
    let rests = rest_points b c.args.from c.args.columns in
    let calms = calm_points b c.args.from c.args.columns in
    let here = writes_same _ _ (Ok c.in_ok-put_curves_opening.field-0) (curves_opening c.args.height c.bound.result) opening (ap (λ (h : ℕ). curves_opening h c.bound.result) c.requires.height ∙ ap (curves_opening (curve_height b c.args.from c.args.columns)) c.bound.ensures) c.in_ok-put_curves_opening.ensures in
    rw (err_from_is_err_and c.from_residual-in_err-put_rests.result c.from_residual-in_err-put_rests.ensures.1).1
    (writes_second _ _ _ c.in_err-put_rests.field-0.0 opening rests (calm_opening ++ (calms ++ ending_text)) here c.in_err-put_rests.ensures)

pub returns-in_err-put : goal.returns-in_err-put
returns-in_err-put g c =
    let b = block_of c.args.ring.now in
    let opening = curves_opening (curve_height b c.args.from c.args.columns) (bound b.n) in
    let rests = rest_points b c.args.from c.args.columns in
    let calms = calm_points b c.args.from c.args.columns in
    let here = writes_same _ _ (Ok c.in_ok-put_curves_opening.field-0) (curves_opening c.args.height c.bound.result) opening (ap (λ (h : ℕ). curves_opening h c.bound.result) c.requires.height ∙ ap (curves_opening (curve_height b c.args.from c.args.columns)) c.bound.ensures) c.in_ok-put_curves_opening.ensures in
    let fault = c.in_err-put.field-0.0 in
    rw (err_from_is_err_and c.from_residual-in_err-put.result c.from_residual-in_err-put.ensures.1).1
    (writes_then _ _ _ (Err fault) opening (rests ++ (calm_opening ++ (calms ++ ending_text))) here
    (writes_second _ _ _ fault rests calm_opening (calms ++ ending_text) c.in_ok-put_rests.ensures c.in_err-put.ensures))

pub returns-in_err-put_calms : goal.returns-in_err-put_calms
returns-in_err-put_calms g c =
    let b = block_of c.args.ring.now in
    let opening = curves_opening (curve_height b c.args.from c.args.columns) (bound b.n) in
    let rests = rest_points b c.args.from c.args.columns in
    let calms = calm_points b c.args.from c.args.columns in
    let here = writes_same _ _ (Ok c.in_ok-put_curves_opening.field-0) (curves_opening c.args.height c.bound.result) opening (ap (λ (h : ℕ). curves_opening h c.bound.result) c.requires.height ∙ ap (curves_opening (curve_height b c.args.from c.args.columns)) c.bound.ensures) c.in_ok-put_curves_opening.ensures in
    let fault = c.in_err-put_calms.field-0.0 in
    rw (err_from_is_err_and c.from_residual-in_err-put_calms.result c.from_residual-in_err-put_calms.ensures.1).1
    (writes_then _ _ _ (Err fault) opening (rests ++ (calm_opening ++ (calms ++ ending_text))) here
    (writes_then _ _ _ (Err fault) rests (calm_opening ++ (calms ++ ending_text)) c.in_ok-put_rests.ensures
    (writes_second _ _ _ fault calm_opening calms ending_text c.in_ok-put.ensures c.in_err-put_calms.ensures)))

pub returns : goal.returns
returns g c =
    let b = block_of c.args.ring.now in
    let opening = curves_opening (curve_height b c.args.from c.args.columns) (bound b.n) in
    let rests = rest_points b c.args.from c.args.columns in
    let calms = calm_points b c.args.from c.args.columns in
    let here = writes_same _ _ (Ok c.in_ok-put_curves_opening.field-0) (curves_opening c.args.height c.bound.result) opening (ap (λ (h : ℕ). curves_opening h c.bound.result) c.requires.height ∙ ap (curves_opening (curve_height b c.args.from c.args.columns)) c.bound.ensures) c.in_ok-put_curves_opening.ensures in
    let r = c.put_ending.result in
    writes_then _ _ _ r opening (rests ++ (calm_opening ++ (calms ++ ending_text))) here
    (writes_then _ _ _ r rests (calm_opening ++ (calms ++ ending_text)) c.in_ok-put_rests.ensures
    (writes_then _ _ _ r calm_opening (calms ++ ending_text) c.in_ok-put.ensures
    (writes_then _ _ _ r calms ending_text c.in_ok-put_calms.ensures c.put_ending.ensures)))
