use Rattle.std.proofs.Common.{◌≡◌, ◌+◌, ◌<◌, ◌≤◌, ◌++◌, ◌∙◌, ℕ, List, length, take, drop, get_or, sum_by, ap, subst, sym, arith, Ok, Err}
use Rattle.std.proofs.lemmas.List.{take_all}
use Rattle.text_lines.specs.Writing.{Wrote}
use Rattle.text_lines.proofs.Writing.{wrote_piece, wrote_fault, writes_left, writes_same}
use Rattle.ring_logs.specs.declared.outcomes.RingOutcome.{RingOutcome}
use Rattle.ring_text.specs.declared.counts.Counts.{Counts}
use Rattle.one_thread_ring.specs.declared.counts.Totals.{Totals}
use Rattle.ring_text.specs.Report.{entries_of, counts_of, total_line, ring_lines, rings_from, report, totals_of}
use Rattle.ring_text.proofs.Sums.{ring_surveys_within, totals_next}
use Rattle.ring_text.proofs.RingLines.{rings_next, rings_end}
use Rattle.ring_text.proofs.farm_report.write_report.Goals as goal

pub add-requires-clause-surveys : goal.add-requires-clause-surveys
add-requires-clause-surveys g c =
    let rings = c.deref-ring-items.result.now in
    let same : rings ≡ c.args.outcome.now.rings.items = c.deref-ring-items.ensures.value in
    let within = ring_surveys_within rings c.loop-place.place c.ring-item.result c.loop-place-test.true in
    let so_far = ap (λ (t : Totals). t.surveys) (c.loop-place.invariant.totals ∙ ap (λ (rs : List RingOutcome). totals_of (take c.loop-place.place rs)) (sym same)) in
    let counted = ap (λ (x : Counts). x.surveys) c.counts_of-counts.ensures.is in
    let here = ap (λ (r : RingOutcome). (counts_of r).surveys) c.ring-item.is in
    let all = ap (λ (rs : List RingOutcome). sum_by (λ (r : RingOutcome). entries_of r.logs.items) rs) same in
    omega (arith, within, so_far, counted, here, all, c.requires.few)

pub returns-in-Err : goal.returns-in-Err
returns-in-Err g c =
    let rings = c.args.outcome.now.rings.items in
    let same : c.deref-ring-items.result.now ≡ rings = c.deref-ring-items.ensures.value in
    let lt : c.loop-place.place < length rings = rw same at c.loop-place-test.true in
    let item : c.ring-item.result ≡ get_or rings c.loop-place.place c.ring-item.result = c.ring-item.is ∙ ap (λ (rs : List RingOutcome). get_or rs c.loop-place.place c.ring-item.result) same in
    let behind = total_line (length rings) (totals_of rings) in
    let lines = writes_same _ _ (Err c.in-Err.fault) _ _ (ap (ring_lines c.loop-place.place) item) c.in-Err.ensures in
    let left : Wrote (g.W.Write.contents c.args.out.now) (g.W.Write.contents c.loop-place.out) (report c.args.outcome.now) (ring_lines c.loop-place.place (get_or rings c.loop-place.place c.ring-item.result) ++ (rings_from (c.loop-place.place + 1) (drop (c.loop-place.place + 1) rings) ++ behind)) =
    subst (λ (t : List ℕ). Wrote (g.W.Write.contents c.args.out.now) (g.W.Write.contents c.loop-place.out) (report c.args.outcome.now) t) (rings_next rings c.loop-place.place behind c.ring-item.result lt) c.loop-place.invariant.written in
    wrote_fault _ _ _ c.in-Err.fault (report c.args.outcome.now) _ (rings_from (c.loop-place.place + 1) (drop (c.loop-place.place + 1) rings) ++ behind) left lines

pub loop-place-preserved : goal.loop-place-preserved
loop-place-preserved g c =
    let rings = c.args.outcome.now.rings.items in
    let same : c.deref-ring-items.result.now ≡ rings = c.deref-ring-items.ensures.value in
    let lt : c.loop-place.place < length rings = rw same at c.loop-place-test.true in
    let item : c.ring-item.result ≡ get_or rings c.loop-place.place c.ring-item.result = c.ring-item.is ∙ ap (λ (rs : List RingOutcome). get_or rs c.loop-place.place c.ring-item.result) same in
    let behind = total_line (length rings) (totals_of rings) in
    let lines = writes_same _ _ (Ok c.in-Ok.field-0) _ _ (ap (ring_lines c.loop-place.place) item) c.in-Ok.ensures in
    let left : Wrote (g.W.Write.contents c.args.out.now) (g.W.Write.contents c.loop-place.out) (report c.args.outcome.now) (ring_lines c.loop-place.place (get_or rings c.loop-place.place c.ring-item.result) ++ (rings_from (c.loop-place.place + 1) (drop (c.loop-place.place + 1) rings) ++ behind)) =
    subst (λ (t : List ℕ). Wrote (g.W.Write.contents c.args.out.now) (g.W.Write.contents c.loop-place.out) (report c.args.outcome.now) t) (rings_next rings c.loop-place.place behind c.ring-item.result lt) c.loop-place.invariant.written in
    let counted : c.counts_of-counts.result ≡ counts_of (get_or rings c.loop-place.place c.ring-item.result) = c.counts_of-counts.ensures.is ∙ ap counts_of item in
    let events = ap (λ (t : Totals). t.events) c.add.ensures in
    let granted = ap (λ (t : Totals). t.granted) c.add.ensures in
    record {
      written = wrote_piece _ _ _ (report c.args.outcome.now) _ (rings_from (c.loop-place.place + 1) (drop (c.loop-place.place + 1) rings) ++ behind) left lines;
      totals = c.add.ensures ∙ totals_next rings c.loop-place.place c.ring-item.result lt c.loop-place.totals c.counts_of-counts.result c.loop-place.invariant.totals counted;
      few = omega (arith, events, c.loop-place.invariant.few, c.counts_of-counts.ensures.few);
      granted = omega (arith, events, granted, c.loop-place.invariant.granted, c.counts_of-counts.ensures.granted);
    }

pub returns : goal.returns
returns g c =
    let rings = c.args.outcome.now.rings.items in
    let same : c.deref-ring-items.result.now ≡ rings = c.deref-ring-items.ensures.value in
    let le : length rings ≤ c.loop-place.place = rw same at c.loop-place-test.false in
    let behind = total_line (length rings) (totals_of rings) in
    let all : c.loop-place.totals ≡ totals_of rings = c.loop-place.invariant.totals ∙ ap totals_of (take_all c.loop-place.place rings le) in
    let many : c.len.result ≡ length rings = omega (arith, c.len.ensures, c.deref-ring-items.ensures.len, ap (λ (rs : List RingOutcome). length rs) same) in
    let line : total_line c.len.result c.loop-place.totals ≡ behind = ap (λ (n : ℕ). total_line n c.loop-place.totals) many ∙ ap (λ (t : Totals). total_line (length rings) t) all in
    let left : Wrote (g.W.Write.contents c.args.out.now) (g.W.Write.contents c.loop-place.out) (report c.args.outcome.now) behind =
    subst (λ (t : List ℕ). Wrote (g.W.Write.contents c.args.out.now) (g.W.Write.contents c.loop-place.out) (report c.args.outcome.now) t) (rings_end rings c.loop-place.place behind le) c.loop-place.invariant.written in
    writes_left _ _ _ c.put_total_line.result (report c.args.outcome.now) behind left (writes_same _ _ c.put_total_line.result _ _ line c.put_total_line.ensures)
