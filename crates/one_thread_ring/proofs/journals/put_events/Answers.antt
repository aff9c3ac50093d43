use Rattle.text_lines.proofs.Writing.{pieces_more, pieces_fault}
use Rattle.journal.specs.Spelling.{journal_line}
use Rattle.one_thread_ring.specs.Journals.{line_of_event}
use Rattle.one_thread_ring.proofs.journals.put_events.Goals as goal

pub returns-in-Err : goal.returns-in-Err
returns-in-Err g c = pieces_fault _ (λ e. journal_line (line_of_event c.args.ring e)) c.args.events.now c.loop-event.event-index _ c.loop-event-test.true _ _ _ c.loop-event.invariant c.in-Err.fault (rw c.saved_event.ensures.is at c.in-Err.ensures)

pub loop-event-preserved : goal.loop-event-preserved
loop-event-preserved g c = pieces_more _ (λ e. journal_line (line_of_event c.args.ring e)) c.args.events.now c.loop-event.event-index _ c.loop-event-test.true _ _ _ c.loop-event.invariant (rw c.saved_event.ensures.is at c.in-Ok.ensures)
