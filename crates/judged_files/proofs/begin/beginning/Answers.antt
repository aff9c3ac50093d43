use Rattle.std.proofs.Common.{List, ℕ, ◌++◌, length, sym, ap, ◌∙◌, append_assoc, append-nil}
use Rattle.std.proofs.lemmas.Bool.{eqb-true}
use Rattle.judged_files.specs.Beginnings.{beginning}
use Rattle.judged_files.proofs.Reading.{begun_none, begun_done, begun_more}
use Rattle.judged_files.proofs.begin.beginning.Goals as goal

pub returns-then-is_done : goal.returns-then-is_done
returns-then-is_done c =
    let kept = c.loop-rest.begun.items in
    let line = c.split_line.result.0.now in
    c.in_ok-extend_from_slice.ensures.items
    ∙ ap (λ (u : List ℕ). kept ++ u) (sym (begun_done c.loop-rest.rest.now line c.split_line.result.1.now c.split_line.ensures.lines (sym c.is_done.ensures ∙ c.if-is_done.true)))
    ∙ c.loop-rest.invariant

pub loop-rest-preserved : goal.loop-rest-preserved
loop-rest-preserved c =
    let kept = c.loop-rest.begun.items in
    let line = c.split_line.result.0.now in
    let after = c.split_line.result.1.now in
    ap (λ (u : List ℕ). u ++ beginning after) c.in_ok-extend_from_slice.ensures.items
    ∙ append_assoc kept line (beginning after)
    ∙ ap (λ (u : List ℕ). kept ++ u) (sym (begun_more c.loop-rest.rest.now line after c.split_line.ensures.lines (sym c.is_done.ensures ∙ c.if-is_done.false)))
    ∙ c.loop-rest.invariant

pub returns : goal.returns
returns c =
    sym (append-nil c.loop-rest.begun.items)
    ∙ ap (λ (u : List ℕ). c.loop-rest.begun.items ++ u) (sym (begun_none c.loop-rest.rest.now (eqb-true (length c.loop-rest.rest.now) 0 (sym c.is_empty.ensures ∙ c.loop-rest-test.false))))
    ∙ c.loop-rest.invariant
