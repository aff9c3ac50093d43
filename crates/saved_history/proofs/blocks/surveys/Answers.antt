use Rattle.std.proofs.lemmas.Result.{err_from_is_err_and}
use Rattle.text_lines.proofs.Repetitions.{item_shrinks, items_fault, items_end, items_more}
use Rattle.saved_history.specs.Lines.{surveys_at, next_of}
use Rattle.saved_history.proofs.LineLaws.{surveys_repeat}
use Rattle.saved_history.proofs.blocks.surveys.Goals as goal

pub returns-in_err-item : goal.returns-in_err-item
unfolding surveys_at
returns-in_err-item c =
    let p = err_from_is_err_and c.from_residual.result c.from_residual.ensures.1 in
    rw (p.1, p.2) (items_fault surveys_repeat tt tt c.loop-found.rest.now c.loop-found.found.items (surveys_at c.args.bytes.now) c.loop-found.invariant c.in_err-item.field-0.0 c.in_err-item.ensures)

pub returns-in-Next : goal.returns-in-Next
unfolding surveys_at
returns-in-Next c = items_end surveys_repeat tt tt c.loop-found.rest.now c.loop-found.found.items (surveys_at c.args.bytes.now) c.loop-found.invariant (next_of c.in-Next.next) c.in_ok-item.after.now (rw c.in-Next.is at c.in_ok-item.ensures)

pub loop-found-smaller : goal.loop-found-smaller
loop-found-smaller c = item_shrinks surveys_repeat tt tt c.loop-found.rest.now c.in-Survey.survey c.in_ok-item.after.now (rw c.in-Survey.is at c.in_ok-item.ensures)

pub loop-found-preserved : goal.loop-found-preserved
unfolding surveys_at
loop-found-preserved c = rw c.in_ok-push-in-Survey.ensures.items (items_more surveys_repeat tt tt c.loop-found.rest.now c.loop-found.found.items (surveys_at c.args.bytes.now) c.loop-found.invariant c.in-Survey.survey c.in_ok-item.after.now (rw c.in-Survey.is at c.in_ok-item.ensures))
