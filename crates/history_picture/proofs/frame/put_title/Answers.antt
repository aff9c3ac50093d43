use Rattle.std.proofs.Common.{◌≡◌, ◌∙◌, List, length, map, ap, arith}
use Rattle.std.specs.Prelude.{decimal}
use Rattle.ring_model.specs.Surveys.{granted_count, corrupted_count}
use Rattle.saved_history.specs.Content.{block_of}
use Rattle.saved_history.specs.declared.saved.SavedEvent.{SavedEvent}
use Rattle.ring_check.specs.Legal.{history}
use Rattle.ring_check.specs.Table.{event_of}
use Rattle.history_picture.proofs.frame.put_title.Goals as goal

pub returns : goal.returns
returns g c =
    let many : c.len.result ≡ length c.args.ring.now.events.items = omega (arith, c.len.ensures) in
    let seen : c.len-2.result ≡ length c.args.ring.now.surveys.items = omega (arith, c.len-2.ensures) in
    let events : c.as_bytes-events.result.now ≡ decimal (length c.args.ring.now.events.items) = c.as_bytes-events.ensures.value ∙ c.format-4.ensures.text ∙ ap decimal many in
    let granted : c.as_bytes-granted.result.now ≡ decimal (granted_count (history (block_of c.args.ring.now))) = c.as_bytes-granted.ensures.value ∙ c.format-5.ensures.text ∙ ap decimal (c.count_events-tally.ensures.granted ∙ ap (λ (es : List SavedEvent). granted_count (map event_of es)) c.deref.ensures.value) in
    let corrupted : c.as_bytes-corrupted.result.now ≡ decimal (corrupted_count (history (block_of c.args.ring.now))) = c.as_bytes-corrupted.ensures.value ∙ c.format-6.ensures.text ∙ ap decimal (c.count_events-tally.ensures.corrupted ∙ ap (λ (es : List SavedEvent). corrupted_count (map event_of es)) c.deref.ensures.value) in
    let surveys : c.as_bytes-surveys.result.now ≡ decimal (length c.args.ring.now.surveys.items) = c.as_bytes-surveys.ensures.value ∙ c.format-7.ensures.text ∙ ap decimal seen in
    rw (
      ← c.format.ensures.text,
      ← c.format-2.ensures.text,
      ← c.format-3.ensures.text,
      ← c.as_bytes-index.ensures.value,
      ← c.as_bytes-n.ensures.value,
      ← c.as_bytes-k.ensures.value,
      ← events,
      ← granted,
      ← corrupted,
      ← surveys,
      ← c.format-8.ensures.text,
      ← c.format-9.ensures.text,
      ← c.as_bytes-first.ensures.value,
      ← c.as_bytes-end.ensures.value,
    )
    c.put_all.ensures
