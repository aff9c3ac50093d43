use Rattle.std.proofs.Common.{◌≤◌, ◌∙◌, List, take, length, map, ap, subst}
use Rattle.ring_model.specs.Groups.{left_after}
use Rattle.saved_history.specs.Content.{block_of}
use Rattle.saved_history.specs.declared.saved.SavedEvent.{SavedEvent}
use Rattle.ring_check.specs.Table.{event_of}
use Rattle.history_picture.proofs.Shown.{left_past}
use Rattle.history_motion.proofs.seen.left_before.Goals as goal

pub returns-else-place-events : goal.returns-else-place-events
returns-else-place-events c =
    let events = c.as_slice-events.ensures.value in
    let past = subst (λ (es : List SavedEvent). length es ≤ c.args.place) events c.if-place-events.false in
    c.left_after-else-place-events.ensures
    ∙ (ap (λ (es : List SavedEvent). left_after (take (length es) (map event_of es))) events ∙ left_past (block_of c.args.ring.now) c.args.place past)
