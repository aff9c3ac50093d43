use Rattle.ring_model.specs.declared.events.Event.{Event}
use Rattle.journal.specs.Spelling.{journal_line}
use Rattle.one_thread_ring.specs.Journals.{line_of_event}
use Rattle.endless_ring.proofs.Filled.{FilledItems}
use Rattle.endless_ring.proofs.texts.put_calls.Given as goal

abbrev pub invariant-loop-event : goal.invariant-loop-event
invariant-loop-event l = FilledItems (λ (e : Event). journal_line (line_of_event 0 e)) l.initial.out l.out l.place l.behind l.events l.event-index
