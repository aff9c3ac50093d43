use Rattle.std.proofs.Common.{true, false, ◌++◌, Err}
use Rattle.std.proofs.lemmas.Result.{err_from_is_err_and}
use Rattle.text_lines.proofs.Writing.{writes_then, writes_err}
use Rattle.saved_history.specs.Content.{block_of}
use Rattle.history_picture.specs.Picture.{marks_text, refusals_opening, corruptions_opening}
use Rattle.history_picture.proofs.Texts.{writes_second}
use Rattle.history_picture.proofs.picture.put_both_marks.Goals as goal

pub returns-in_err-put : goal.returns-in_err-put
returns-in_err-put g c =
    let refusals = marks_text (block_of c.args.ring.now) false c.args.from c.args.count in
    let corruptions = marks_text (block_of c.args.ring.now) true c.args.from c.args.count in
    rw (err_from_is_err_and c.from_residual.result c.from_residual.ensures.1).1
    (writes_err _ _ c.in_err-put.field-0.0 refusals_opening (refusals ++ (corruptions_opening ++ corruptions)) c.in_err-put.ensures)

pub returns-in_err-put_marks : goal.returns-in_err-put_marks
returns-in_err-put_marks g c =
    let refusals = marks_text (block_of c.args.ring.now) false c.args.from c.args.count in
    let corruptions = marks_text (block_of c.args.ring.now) true c.args.from c.args.count in
    rw (err_from_is_err_and c.from_residual-in_err-put_marks.result c.from_residual-in_err-put_marks.ensures.1).1
    (writes_second _ _ _ c.in_err-put_marks.field-0.0 refusals_opening refusals (corruptions_opening ++ corruptions) c.in_ok-put.ensures c.in_err-put_marks.ensures)

pub returns-in_err-put-2 : goal.returns-in_err-put-2
returns-in_err-put-2 g c =
    let refusals = marks_text (block_of c.args.ring.now) false c.args.from c.args.count in
    let corruptions = marks_text (block_of c.args.ring.now) true c.args.from c.args.count in
    rw (err_from_is_err_and c.from_residual-in_err-put-2.result c.from_residual-in_err-put-2.ensures.1).1
    (writes_then _ _ _ (Err c.in_err-put-2.field-0.0) refusals_opening (refusals ++ (corruptions_opening ++ corruptions)) c.in_ok-put.ensures
    (writes_second _ _ _ c.in_err-put-2.field-0.0 refusals corruptions_opening corruptions c.in_ok-put_marks.ensures c.in_err-put-2.ensures))

pub returns : goal.returns
returns g c =
    let refusals = marks_text (block_of c.args.ring.now) false c.args.from c.args.count in
    let corruptions = marks_text (block_of c.args.ring.now) true c.args.from c.args.count in
    let r = c.put_marks-2.result in
    writes_then _ _ _ r refusals_opening (refusals ++ (corruptions_opening ++ corruptions)) c.in_ok-put.ensures
    (writes_then _ _ _ r refusals (corruptions_opening ++ corruptions) c.in_ok-put_marks.ensures
    (writes_then _ _ _ r corruptions_opening corruptions c.in_ok-put-2.ensures c.put_marks-2.ensures))
