use Rattle.std.proofs.Common.{◌≡◌, ◌∙◌, ℕ, length, ap, Err}
use Rattle.ring_state.specs.Sizes.{Size}
use Rattle.ring_model.specs.Ring.{Ring}
use Rattle.text_lines.proofs.Writing.{writes_err, writes_same}
use Rattle.ring_text.specs.declared.counts.Counts.{Counts}
use Rattle.ring_text.specs.Report.{counts_of, counts_line, end_lines}
use Rattle.ring_text.proofs.farm_report.put_ring.Goals as goal

pub returns-in-Err : goal.returns-in-Err
returns-in-Err g c =
    let n : c.n.result ≡ length c.args.ring.now.book.start.values = c.n.ensures.is ∙ ap (λ (s : Size). s.n) c.params-start.ensures.is ∙ ap (λ (r : Ring). length r.values) c.start.ensures.is in
    let k : c.k.result ≡ c.args.ring.now.book.start.k = c.k.ensures.is ∙ ap (λ (s : Size). s.k) c.params-start.ensures.is ∙ ap (λ (r : Ring). r.k) c.start.ensures.is in
    let same : counts_line c.args.place c.n.result c.k.result c.args.counts ≡ counts_line c.args.place (length c.args.ring.now.book.start.values) c.args.ring.now.book.start.k (counts_of c.args.ring.now) =
    ap (λ (x : ℕ). counts_line c.args.place x c.k.result c.args.counts) n ∙ ap (λ (x : ℕ). counts_line c.args.place (length c.args.ring.now.book.start.values) x c.args.counts) k
    ∙ ap (λ (x : Counts). counts_line c.args.place (length c.args.ring.now.book.start.values) c.args.ring.now.book.start.k x) c.requires in
    writes_err _ _ c.in-Err.fault (counts_line c.args.place (length c.args.ring.now.book.start.values) c.args.ring.now.book.start.k (counts_of c.args.ring.now)) (end_lines c.args.ring.now.book)
    (writes_same _ _ (Err c.in-Err.fault) _ _ same c.in-Err.ensures)
