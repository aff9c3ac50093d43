use Rattle.std.proofs.Common.{◌≡◌, ◌≤◌, List, All, length, ap, sym, ◌∙◌, subst}
use Rattle.ring_model.specs.Ring.{Ring}
use Rattle.rand_pcg.specs.Lcg.{Lcg}
use Rattle.ring_settings.specs.Limits.{action_limit}
use Rattle.ring_settings.specs.Contents.{ring_at}
use Rattle.ring_settings.specs.declared.actions.Action.{Action}
use Rattle.ring_farm.specs.Runs.{ring_of_data}
use Rattle.ring_repairs.specs.Draws.{generator}
use Rattle.farm_in_turn.specs.Turns.{turns}
use Rattle.farm_in_turn.specs.InTurn.{Run, new_run, after_turns}
use Rattle.farm_in_turn.specs.Rings.{so_far}
use Rattle.ring_book.specs.BookView.{BookView}
use Rattle.farm_in_turn.proofs.Running.{parts, parts_short, ran_in_turn, same_run}
use Rattle.farm_in_turn.proofs.rings.run_ring.Goals as goal

pub make_room-requires-clause-few : goal.make_room-requires-clause-few
make_room-requires-clause-few c =
    subst (λ (xs : List (List Action)). All (λ (p : List Action). length p ≤ action_limit) xs) (sym (c.as_slice.ensures.value ∙ c.in-Ok.ensures)) (parts_short c.args.ring c.args.plans.now c.requires.few)

pub returns-in-Ok-close-clause-ok : goal.returns-in-Ok-close-clause-ok
returns-in-Ok-close-clause-ok c =
    let begun = c.in-Ok-open_ring.ensures.begun in
    let same = c.make_room.ensures.same in
    let start : Ring = ring_of_data (ring_at c.args.settings.now c.args.ring) in
    let at : c.make_room.new.ring.book.start ≡ start = ap (λ (b : BookView _). b.start) same.book ∙ begun.start in
    let none : so_far c.make_room.new.ring ≡ new_run (length c.args.plans.now) = same_run c.in-Ok-open_ring.open c.make_room.new.ring same ∙ begun.nothing in
    let own = c.in-Ok.ensures in
    let done : so_far c.take_turns.new.ring ≡ after_turns start (new_run (length c.args.plans.now)) (turns (generator c.args.seed c.args.ring) (parts c.args.ring c.args.plans.now)) =
    c.in-Ok-take_turns.ensures.done
    ∙ (ap (λ (r : Ring). after_turns r (so_far c.make_room.new.ring) (turns c.generator-words.result c.in-Ok.parts.items)) at
    ∙ (ap (λ (r : Run). after_turns start r (turns c.generator-words.result c.in-Ok.parts.items)) none
    ∙ (ap (λ (g : Lcg). after_turns start (new_run (length c.args.plans.now)) (turns g c.in-Ok.parts.items)) c.generator-words.ensures
    ∙ ap (λ (xs : List (List Action)). after_turns start (new_run (length c.args.plans.now)) (turns (generator c.args.seed c.args.ring) xs)) own))) in
    ran_in_turn c.args.settings.now c.args.plans.now c.args.seed c.args.ring c.take_turns.new.ring c.in-Ok-close.outcome c.take_turns.ensures.ring
    (c.in-Ok-take_turns.ensures.start ∙ at) done c.in-Ok-close.ensures.book c.in-Ok-close.ensures.logs c.in-Ok-close.ensures.right c.requires.seats c.requires.plans
