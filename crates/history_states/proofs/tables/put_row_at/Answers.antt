use Rattle.std.proofs.Common.{◌≡◌, ◌∙◌, List, ℕ, Ok, Err, sym, ap, Option}
use Rattle.ring_model.specs.Ring.{Ring}
use Rattle.saved_history.specs.declared.saved.SavedEvent.{SavedEvent}
use Rattle.saved_history.specs.Content.{block_of}
use Rattle.ring_check.specs.Gauges.{ring_of}
use Rattle.text_lines.proofs.Writing.{writes_same}
use Rattle.history_steps.specs.Steps.{ring_at, calm_at}
use Rattle.history_states.specs.Rows.{row_text, row, kind_of, call_of, last_event}
use Rattle.history_states.proofs.Parts.{table_none, row_is}
use Rattle.history_states.proofs.tables.put_row_at.Goals as goal

pub returns-in_default : goal.returns-in_default
returns-in_default g c = table_none _ _

pub returns-in-Ok-put_row : goal.returns-in-Ok-put_row
returns-in-Ok-put_row g c =
    writes_same _ _ (Ok c.in-Ok-put_row.field-0) _ _
    (row_is c.args.form (block_of c.args.ring.now) c.args.place.index c.args.place.events c.kind_of.result.now c.call_of.result (ring_of c.args.gauge.now) c.args.place.calm
    c.requires.index (c.kind_of.ensures ∙ ap kind_of c.last_event-event.ensures) (c.call_of.ensures ∙ ap call_of c.last_event-event.ensures) c.requires.ring.same c.requires.calm)
    c.in-Ok-put_row.ensures

pub returns : goal.returns
returns g c =
    writes_same _ _ (Err c.in-Err.field-0) _ _
    (row_is c.args.form (block_of c.args.ring.now) c.args.place.index c.args.place.events c.kind_of.result.now c.call_of.result (ring_of c.args.gauge.now) c.args.place.calm
    c.requires.index (c.kind_of.ensures ∙ ap kind_of c.last_event-event.ensures) (c.call_of.ensures ∙ ap call_of c.last_event-event.ensures) c.requires.ring.same c.requires.calm)
    c.in-Err.ensures
