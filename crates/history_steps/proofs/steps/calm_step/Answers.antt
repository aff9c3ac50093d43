use Rattle.std.proofs.Common.{◌≡◌, ◌<◌, ◌≤◌, ◌∙◌, length, get_or, ap, arith, rules}
use Rattle.ring_model.proofs.Histories.{calm_next}
use Rattle.saved_history.specs.declared.saved.SavedEvent.{SavedEvent}
use Rattle.saved_history.specs.Content.{block_of}
use Rattle.ring_check.specs.Table.{event_of}
use Rattle.history_steps.proofs.Places.{calm_more, calm_stays}
use Rattle.history_steps.proofs.steps.calm_step.Goals as goal

pub returns-then-place-len-clause-calm : goal.returns-then-place-len-clause-calm
returns-then-place-len-clause-calm c =
    let lt : c.args.place < length c.args.ring.now.events.items = omega (arith, c.len.ensures, c.if-place-len.true) in
    let is : c.index.result.now ≡ get_or c.args.ring.now.events.items c.args.place c.index.result.now = search rules in
    let on = c.calm_after.ensures.calm ∙ ap (λ (e : SavedEvent). calm_next c.args.calm (event_of e).reply) is in
    calm_more (block_of c.args.ring.now) c.args.place c.index.result.now c.args.calm _ lt c.requires.calm on

pub returns-else-place-len-clause-calm : goal.returns-else-place-len-clause-calm
returns-else-place-len-clause-calm c =
    let le : length c.args.ring.now.events.items ≤ c.args.place = omega (arith, c.len.ensures, c.if-place-len.false) in
    c.requires.calm ∙ calm_stays (block_of c.args.ring.now) c.args.place le
