use Rattle.std.proofs.Common.{◌≡◌, ◌∙◌, List, map, ap}
use Rattle.std.specs.Prelude.{decimal}
use Rattle.std.proofs.lemmas.List.{append-nil}
use Rattle.ring_model.specs.Surveys.{corrupted_count}
use Rattle.saved_history.specs.Content.{block_of}
use Rattle.saved_history.specs.declared.saved.SavedEvent.{SavedEvent}
use Rattle.ring_check.specs.Legal.{history}
use Rattle.ring_check.specs.Table.{event_of}
use Rattle.history_repairs.proofs.lines.put_ring.Goals as goal

pub returns : goal.returns
returns g c =
    let faults : c.as_bytes-faults.result.now ≡ decimal (corrupted_count (history (block_of c.args.ring.now))) = c.as_bytes-faults.ensures.value ∙ c.format-4.ensures.text ∙ ap decimal (c.count_events-tally.ensures.corrupted ∙ ap (λ (es : List SavedEvent). corrupted_count (map event_of es)) c.deref.ensures.value) in
    let last = rw (append-nil c.as_bytes-ended.result.now) at c.put_all.ensures in
    rw (
      ← c.format.ensures.text,
      ← c.format-2.ensures.text,
      ← c.format-3.ensures.text,
      ← c.as_bytes-index.ensures.value,
      ← c.as_bytes-n.ensures.value,
      ← c.as_bytes-k.ensures.value,
      ← faults,
      ← c.format-5.ensures.text,
      ← c.as_bytes-ended.ensures.value,
    )
    last
