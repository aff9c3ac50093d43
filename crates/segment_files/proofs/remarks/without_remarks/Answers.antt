use Rattle.std.proofs.Common.{List, ℕ, ◌++◌, length, sym, ap, ◌∙◌, append_assoc}
use Rattle.std.proofs.lemmas.Bool.{eqb-true}
use Rattle.std.proofs.lemmas.List.{append-nil}
use Rattle.segment_files.specs.Remarks.{without_remarks}
use Rattle.segment_files.proofs.RemarkSteps.{empty_without, remark_without, plain_without_more}
use Rattle.segment_files.proofs.remarks.without_remarks.Goals as goal

pub loop-rest-preserved-in_ok-extend_from_slice : goal.loop-rest-preserved-in_ok-extend_from_slice
loop-rest-preserved-in_ok-extend_from_slice c =
    let rest = c.loop-rest.rest.now in
    let line = c.split_line.result.0.now in
    let after = c.split_line.result.1.now in
    let kept = c.loop-rest.kept.items in
    ap (λ (u : List ℕ). u ++ without_remarks after) c.in_ok-extend_from_slice.ensures.items
    ∙ append_assoc kept line (without_remarks after)
    ∙ ap (λ (u : List ℕ). kept ++ u) (sym (plain_without_more rest line after c.split_line.ensures.lines (sym c.is_remark.ensures ∙ c.if-not-is_remark.true)))
    ∙ c.loop-rest.invariant

pub loop-rest-preserved : goal.loop-rest-preserved
loop-rest-preserved c =
    let rest = c.loop-rest.rest.now in
    let line = c.split_line.result.0.now in
    let after = c.split_line.result.1.now in
    ap (λ (u : List ℕ). c.loop-rest.kept.items ++ u) (sym (remark_without rest line after c.split_line.ensures.lines (sym c.is_remark.ensures ∙ c.if-not-is_remark.false))) ∙ c.loop-rest.invariant

pub returns : goal.returns
returns c =
    sym (append-nil c.loop-rest.kept.items)
    ∙ ap (λ (u : List ℕ). c.loop-rest.kept.items ++ u) (sym (empty_without c.loop-rest.rest.now (eqb-true (length c.loop-rest.rest.now) 0 (sym c.is_empty.ensures ∙ c.loop-rest-test.false))))
    ∙ c.loop-rest.invariant
