use Rattle.std.proofs.Common.{List, ◌∙◌, ap}
use Rattle.ring_model.specs.declared.events.Event.{Event}
use Rattle.ring_model.specs.declared.tallies.Tally.{Tally}
use Rattle.ring_model.specs.Tallies.{empty_tally, tallied}
use Rattle.endless_ring.proofs.Segments.{known_after}
use Rattle.endless_ring.proofs.rings.EndlessRing.after.Goals as goal

pub invariant_of-result : goal.invariant_of-result
invariant_of-result c =
    known_after c.args.base c.args.ring c.with_events.result c.requires.base c.requires.ring
    (c.with_events.ensures ∙ ap (λ (x : Tally). tallied x c.history.result.now) c.empty.ensures ∙ ap (λ (x : List Event). tallied empty_tally x) c.history.ensures)
