use Rattle.std.proofs.Common.{◌+◌, ◌++◌, ◌∙◌, sym}
use Rattle.std.proofs.lemmas.Result.{err_from_is_err_and}
use Rattle.text_lines.proofs.Writing.{writes_then, writes_err}
use Rattle.saved_history.specs.Content.{block_of}
use Rattle.history_picture.specs.Picture.{upper_part, marks_part, lower_part}
use Rattle.history_picture.proofs.Texts.{writes_second}
use Rattle.history_picture.proofs.Walking.{followed}
use Rattle.history_picture.proofs.picture.write_from_rows.Goals as goal

pub returns-in_err-put_upper : goal.returns-in_err-put_upper
returns-in_err-put_upper g c =
    let b = block_of c.args.ring.now in
    rw (err_from_is_err_and c.from_residual.result c.from_residual.ensures.1).1
    (writes_err _ _ c.in_err-put_upper.field-0.0 (upper_part b c.args.from c.args.count) (marks_part b c.args.from c.args.count ++ lower_part b c.args.from (c.args.count + 1)) c.in_err-put_upper.ensures)

pub returns-in_err-put_both_marks : goal.returns-in_err-put_both_marks
returns-in_err-put_both_marks g c =
    let b = block_of c.args.ring.now in
    rw (err_from_is_err_and c.from_residual-in_err-put_both_marks.result c.from_residual-in_err-put_both_marks.ensures.1).1
    (writes_second _ _ _ c.in_err-put_both_marks.field-0.0 (upper_part b c.args.from c.args.count) (marks_part b c.args.from c.args.count) (lower_part b c.args.from (c.args.count + 1)) c.in_ok-put_upper.ensures c.in_err-put_both_marks.ensures)

pub returns : goal.returns
returns g c =
    let b = block_of c.args.ring.now in
    let upper = upper_part b c.args.from c.args.count in
    let marks = marks_part b c.args.from c.args.count in
    let lower = lower_part b c.args.from (c.args.count + 1) in
    writes_then _ _ _ c.put_lower.result upper (marks ++ lower) c.in_ok-put_upper.ensures
    (writes_then _ _ _ c.put_lower.result marks lower c.in_ok-put_both_marks.ensures c.put_lower.ensures)

pub follow-requires-clause-same : goal.follow-requires-clause-same
follow-requires-clause-same g c = c.requires.same ∙ sym c.requires.gauge.machines

pub curve_height-height-requires-clause-ring : goal.curve_height-height-requires-clause-ring
curve_height-height-requires-clause-ring g c = followed c.args.ring.now _ _ c.args.gauge.now c.follow.new.self c.args.base.now c.requires.gauge c.follow.ensures.gauge c.follow.ensures.ring c.requires.base c.requires.same

pub follow-requires-2-clause-same : goal.follow-requires-2-clause-same
follow-requires-2-clause-same g c = c.requires.same ∙ sym c.curve_height-height.ensures.ring.machines

pub put_lower-requires-clause-ring : goal.put_lower-requires-clause-ring
put_lower-requires-clause-ring g c = followed c.args.ring.now _ _ c.curve_height-height.new.gauge c.follow-2.new.self c.args.base.now c.curve_height-height.ensures.ring c.follow-2.ensures.gauge c.follow-2.ensures.ring c.requires.base c.requires.same
