use Rattle.std.proofs.Common.{◌++◌, ap, sym, ◌∙◌, ℕ, List}
use Rattle.noted_lines.specs.Sums.{sum_of}
use Rattle.noted_lines.proofs.NotedReads.{note_read, note_refused, note_other}
use Rattle.noted_lines.proofs.notes.note_of.Goals as goal

pub returns-then-sum-sum_of_both : goal.returns-then-sum-sum_of_both
returns-then-sum-sum_of_both c =
    note_other c.args.rest.now c.in-Ok.count c.in-Ok.sum c.in-Ok.line.now c.in-Ok.ensures
    (λ e. c.if-sum-sum_of_both.true
    (e ∙ sym (c.sum_of_both.ensures ∙ ap (λ (x : List ℕ). sum_of (x ++ c.in-Ok.line.now)) (c.as_bytes.ensures ∙ c.spaced.ensures.is))))

pub returns-else-sum-sum_of_both : goal.returns-else-sum-sum_of_both
returns-else-sum-sum_of_both c =
    note_read c.args.rest.now c.in-Ok.count c.in-Ok.sum c.in-Ok.line.now c.in-Ok.ensures
    (c.if-sum-sum_of_both.false ∙ c.sum_of_both.ensures ∙ ap (λ (x : List ℕ). sum_of (x ++ c.in-Ok.line.now)) (c.as_bytes.ensures ∙ c.spaced.ensures.is))

pub returns-in-Err : goal.returns-in-Err
returns-in-Err c = note_refused c.args.rest.now c.in-Err.field-0 c.in-Err.ensures
