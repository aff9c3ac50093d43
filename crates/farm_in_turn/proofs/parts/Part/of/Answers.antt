use Rattle.std.proofs.Common.{◌==◌, ◌<◌, length, arith}
use Rattle.std.proofs.lemmas.Grind.{common_steps}
use Rattle.std.proofs.lemmas.List.{append-nil}
use Rattle.std.proofs.lemmas.List.Elements.{filter_more}
use Rattle.ring_settings.specs.declared.actions.Action.TheVariants.{Survey}
use Rattle.ring_farm.specs.Plans.{ring_of}
use Rattle.farm_in_turn.proofs.parts.Part.of.Goals as goal

pub loop-action-preserved : goal.loop-action-preserved
loop-action-preserved c =
    let here : c.loop-action.action-index < length c.args.plan.now.actions.items = rw c.deref-action-items.ensures.value at c.loop-action-test.true in
    grind (arith, common_steps, filter_more (λ a. ring_of a == c.args.ring) c.args.plan.now.actions.items c.loop-action.action-index (Survey 0) here, append-nil)
