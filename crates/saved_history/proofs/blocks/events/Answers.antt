use Rattle.std.proofs.lemmas.Result.{err_from_is_err_and}
use Rattle.text_lines.proofs.Repetitions.{item_shrinks, items_fault, items_end, items_more}
use Rattle.saved_history.specs.Lines.{events_at}
use Rattle.saved_history.proofs.LineLaws.{events_repeat}
use Rattle.saved_history.proofs.blocks.events.Goals as goal

pub returns-in_err-item : goal.returns-in_err-item
unfolding events_at
returns-in_err-item c =
    let p = err_from_is_err_and c.from_residual.result c.from_residual.ensures.1 in
    rw (p.1, p.2) (items_fault (events_repeat c.args.version) tt tt c.loop-found.rest.now c.loop-found.found.items (events_at c.args.version c.args.bytes.now) c.loop-found.invariant c.in_err-item.field-0.0 c.in_err-item.ensures)

pub returns-in-End : goal.returns-in-End
unfolding events_at
returns-in-End c = items_end (events_repeat c.args.version) tt tt c.loop-found.rest.now c.loop-found.found.items (events_at c.args.version c.args.bytes.now) c.loop-found.invariant c.in-End.said c.in_ok-item.after.now (rw c.in-End.is at c.in_ok-item.ensures)

pub loop-found-smaller : goal.loop-found-smaller
loop-found-smaller c = item_shrinks (events_repeat c.args.version) tt tt c.loop-found.rest.now c.in-Event.event c.in_ok-item.after.now (rw c.in-Event.is at c.in_ok-item.ensures)

pub loop-found-preserved : goal.loop-found-preserved
unfolding events_at
loop-found-preserved c = rw c.in_ok-push-in-Event.ensures.items (items_more (events_repeat c.args.version) tt tt c.loop-found.rest.now c.loop-found.found.items (events_at c.args.version c.args.bytes.now) c.loop-found.invariant c.in-Event.event c.in_ok-item.after.now (rw c.in-Event.is at c.in_ok-item.ensures))
