use Rattle.std.proofs.Common.{refl, ap, sym, ◌∙◌, List, ℕ, ◌++◌, ◌∷◌, [], arith}
use Rattle.std.proofs.lemmas.Fmt.{decimal_digit}
use Rattle.text_lines.specs.Spelling.{spaced}
use Rattle.ring_model.specs.declared.events.Event.{Event}
use Rattle.saved_history.specs.Spelling.{event_line}
use Rattle.journal.specs.Spelling.{journal_line}
use Rattle.one_thread_ring.specs.Journals.{line_of_event}
use Rattle.endless_ring.proofs.Filled.{flat_spelled, below_more, below_all, fills_same, fills_then}
use Rattle.endless_ring.proofs.texts.put_calls.Goals as goal

pub loop-event-preserved : goal.loop-event-preserved
loop-event-preserved c =
    let line = fills_same _ _ (c.as_bytes.ensures ∙ (c.event_line.ensures ∙ ap event_line c.saved_event.ensures.is)) c.put-behind.ensures in
    below_more (flat_spelled (λ (e : Event). journal_line (line_of_event 0 e))) c.loop-event.invariant _ _ _ _ refl c.loop-event-test.true (fills_then (spaced 0) _ (fills_same _ (spaced 0) (sym (ap (λ (t : List ℕ). t ++ 32 ∷ []) (decimal_digit 0 (omega arith)))) c.put-begun.ensures) line) tt

pub returns : goal.returns
returns c = (below_all (flat_spelled (λ (e : Event). journal_line (line_of_event 0 e))) c.loop-event.invariant c.loop-event-test.false).0
