use Rattle.std.proofs.Common.{Ok, Err, length, refl, sym, ap}
use Rattle.std.specs.List.{slice_get}
use Rattle.std.proofs.lemmas.Option.{slice_get_read}
use Rattle.text_lines.proofs.Writing.{writes_same}
use Rattle.history_picture.specs.Walks.{row_to}
use Rattle.history_picture.proofs.Texts.{piece_more, piece_fault}
use Rattle.history_picture.proofs.rows.put_rows.Goals as goal

pub returns-in-Err : goal.returns-in-Err
returns-in-Err g c =
    let rows = c.args.rows.now in
    let i = c.loop-machine.machine in
    let is = slice_get_read rows (length rows) i c.index-rows-machine.result refl c.loop-machine-test.true c.index-rows-machine.is in
    let piece = writes_same _ _ (Err c.in-Err.fault) _ _ (sym (ap (row_to c.args.grid.n c.args.grid.columns i) is)) c.in-Err.ensures in
    piece_fault (λ j. row_to c.args.grid.n c.args.grid.columns j (slice_get rows j)) i (length rows) _ _ _ c.in-Err.fault c.loop-machine-test.true c.loop-machine.invariant piece

pub loop-machine-preserved : goal.loop-machine-preserved
loop-machine-preserved g c =
    let rows = c.args.rows.now in
    let i = c.loop-machine.machine in
    let is = slice_get_read rows (length rows) i c.index-rows-machine.result refl c.loop-machine-test.true c.index-rows-machine.is in
    let piece = writes_same _ _ (Ok c.in-Ok.field-0) _ _ (sym (ap (row_to c.args.grid.n c.args.grid.columns i) is)) c.in-Ok.ensures in
    piece_more (λ j. row_to c.args.grid.n c.args.grid.columns j (slice_get rows j)) i _ _ _ c.loop-machine.invariant piece
