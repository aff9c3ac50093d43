use Rattle.std.proofs.Common.{◌≡◌, ◌<◌, ◌++◌, ◌∙◌, Ok, Err, ℕ, List, length, get_or, refl, sym, ap, subst, arith, rules, map}
use Rattle.std.specs.List.{flat_map, slice_get}
use Rattle.std.specs.Io.KnownBytes.{Appends}
use Rattle.std.proofs.lemmas.Option.{slice_get_read}
use Rattle.std.proofs.lemmas.List.Concat.{flat_map-append}
use Rattle.text_lines.proofs.Writing.{writes_same, writes_then, writes_err}
use Rattle.history_picture.specs.Stretches.{pieces, run_from}
use Rattle.history_picture.specs.Picture.{rectangle}
use Rattle.history_picture.specs.Walks.{stretch_of}
use Rattle.history_picture.proofs.Texts.{piece_more, piece_fault}
use Rattle.history_picture.proofs.Walking.{run_to, runs_are}
use Rattle.history_picture.proofs.rows.put_row.Goals as goal

pub returns-in-Err : goal.returns-in-Err
returns-in-Err g c =
    let runs = c.args.row.now.ended.items in
    let text = rectangle c.args.grid.n c.args.grid.columns c.args.machine in
    let i = c.loop-i.i in
    let lt : i < length runs = omega (arith, c.len-i-end.ensures, c.loop-i-test.true) in
    let at : c.index.result.now ≡ get_or runs i c.index.result.now = search rules in
    let is = slice_get_read runs (length runs) i c.index.result.now refl lt at in
    let piece = writes_same _ _ (Err c.in-Err.fault) _ _ (sym (ap (run_to text) is)) c.in-Err.ensures in
    let all = piece_fault (λ j. run_to text (slice_get runs j)) i (length runs) _ _ _ c.in-Err.fault lt c.loop-i.invariant piece in
    let last = flat_map text (run_from c.args.row.now.begin c.args.grid.columns) in
    writes_same _ _ (Err c.in-Err.fault) _ _ (ap (λ (t : List ℕ). t ++ last) (runs_are text runs) ∙ sym (flat_map-append text (map stretch_of runs) (run_from c.args.row.now.begin c.args.grid.columns)))
    (writes_err _ _ c.in-Err.fault (pieces (λ j. run_to text (slice_get runs j)) (length runs)) last all)

pub loop-i-preserved : goal.loop-i-preserved
loop-i-preserved g c =
    let runs = c.args.row.now.ended.items in
    let text = rectangle c.args.grid.n c.args.grid.columns c.args.machine in
    let i = c.loop-i.i in
    let lt : i < length runs = omega (arith, c.len-i-end.ensures, c.loop-i-test.true) in
    let at : c.index.result.now ≡ get_or runs i c.index.result.now = search rules in
    let is = slice_get_read runs (length runs) i c.index.result.now refl lt at in
    let piece = writes_same _ _ (Ok c.in-Ok.field-0) _ _ (sym (ap (run_to text) is)) c.in-Ok.ensures in
    piece_more (λ j. run_to text (slice_get runs j)) i _ _ _ c.loop-i.invariant piece

pub returns : goal.returns
returns g c =
    let runs = c.args.row.now.ended.items in
    let text = rectangle c.args.grid.n c.args.grid.columns c.args.machine in
    let f : ℕ → List ℕ = λ j. run_to text (slice_get runs j) in
    let end : c.loop-i.i ≡ length runs = omega (arith, c.len-i-end.ensures, c.loop-i-test.false, c.loop-i.auto.i-end) in
    let all : Appends (g.W.Write.contents c.args.out.now) (g.W.Write.contents c.loop-i.out) (pieces f (length runs)) = subst (λ (j : ℕ). Appends (g.W.Write.contents c.args.out.now) (g.W.Write.contents c.loop-i.out) (pieces f j)) end c.loop-i.invariant in
    let last = flat_map text (run_from c.args.row.now.begin c.args.grid.columns) in
    writes_same _ _ c.put_run.result _ _ (ap (λ (t : List ℕ). t ++ last) (runs_are text runs) ∙ sym (flat_map-append text (map stretch_of runs) (run_from c.args.row.now.begin c.args.grid.columns)))
    (writes_then _ _ _ c.put_run.result (pieces f (length runs)) last all c.put_run.ensures)
