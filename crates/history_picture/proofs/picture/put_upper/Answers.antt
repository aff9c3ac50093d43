use Rattle.std.proofs.Common.{◌+◌, ◌++◌, Ok, Err, ap}
use Rattle.std.proofs.lemmas.Result.{err_from_is_err_and}
use Rattle.text_lines.proofs.Writing.{writes_then, writes_err, writes_same}
use Rattle.saved_history.specs.Content.{block_of}
use Rattle.history_picture.specs.Picture.{curve_height, title_text, axes_text, rows_opening, rows_text}
use Rattle.history_picture.specs.Walks.{rows_to}
use Rattle.history_picture.proofs.Texts.{writes_second}
use Rattle.history_picture.proofs.Walking.{rows_are}
use Rattle.history_picture.proofs.picture.put_upper.Goals as goal

pub returns-in_err-put_title : goal.returns-in_err-put_title
returns-in_err-put_title g c =
    let b = block_of c.args.ring.now in
    let axes = axes_text b.n c.args.from c.args.count (curve_height b c.args.from (c.args.count + 1)) in
    let opening = rows_opening in
    let rows = rows_text b c.args.from (c.args.count + 1) in
    rw (err_from_is_err_and c.from_residual.result c.from_residual.ensures.1).1
    (writes_err _ _ c.in_err-put_title.field-0.0 (title_text b c.args.from c.args.count) (axes ++ (opening ++ rows)) c.in_err-put_title.ensures)

pub returns-in_err-put_axes : goal.returns-in_err-put_axes
returns-in_err-put_axes g c =
    let b = block_of c.args.ring.now in
    let axes = axes_text b.n c.args.from c.args.count (curve_height b c.args.from (c.args.count + 1)) in
    let opening = rows_opening in
    let rows = rows_text b c.args.from (c.args.count + 1) in
    let fault = c.in_err-put_axes.field-0.0 in
    let here = writes_same _ _ (Err fault) (axes_text b.n c.args.from c.args.count c.args.height) axes (ap (axes_text b.n c.args.from c.args.count) c.requires.height) c.in_err-put_axes.ensures in
    rw (err_from_is_err_and c.from_residual-in_err-put_axes.result c.from_residual-in_err-put_axes.ensures.1).1
    (writes_second _ _ _ fault (title_text b c.args.from c.args.count) axes (opening ++ rows) c.in_ok-put_title.ensures here)

pub returns-in_err-put_rows_opening : goal.returns-in_err-put_rows_opening
returns-in_err-put_rows_opening g c =
    let b = block_of c.args.ring.now in
    let axes = axes_text b.n c.args.from c.args.count (curve_height b c.args.from (c.args.count + 1)) in
    let opening = rows_opening in
    let rows = rows_text b c.args.from (c.args.count + 1) in
    let fault = c.in_err-put_rows_opening.field-0.0 in
    let here = writes_same _ _ (Ok c.in_ok-put_axes.field-0) (axes_text b.n c.args.from c.args.count c.args.height) axes (ap (axes_text b.n c.args.from c.args.count) c.requires.height) c.in_ok-put_axes.ensures in
    rw (err_from_is_err_and c.from_residual-in_err-put_rows_opening.result c.from_residual-in_err-put_rows_opening.ensures.1).1
    (writes_then _ _ _ (Err fault) (title_text b c.args.from c.args.count) (axes ++ (opening ++ rows)) c.in_ok-put_title.ensures
    (writes_second _ _ _ fault axes opening rows here c.in_err-put_rows_opening.ensures))

pub returns : goal.returns
returns g c =
    let b = block_of c.args.ring.now in
    let axes = axes_text b.n c.args.from c.args.count (curve_height b c.args.from (c.args.count + 1)) in
    let opening = rows_opening in
    let rows = rows_text b c.args.from (c.args.count + 1) in
    let here = writes_same _ _ (Ok c.in_ok-put_axes.field-0) (axes_text b.n c.args.from c.args.count c.args.height) axes (ap (axes_text b.n c.args.from c.args.count) c.requires.height) c.in_ok-put_axes.ensures in
    let r = c.put_rows.result in
    let last = writes_same _ _ r (rows_to b.n (c.args.count + 1) c.args.rows.now) rows (rows_are b c.args.from (c.args.count + 1) c.args.rows.now c.requires.machines c.requires.rows) c.put_rows.ensures in
    writes_then _ _ _ r (title_text b c.args.from c.args.count) (axes ++ (opening ++ rows)) c.in_ok-put_title.ensures
    (writes_then _ _ _ r axes (opening ++ rows) here
    (writes_then _ _ _ r opening rows c.in_ok-put_rows_opening.ensures last))
