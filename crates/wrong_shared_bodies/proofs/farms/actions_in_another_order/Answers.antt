use Rattle.std.proofs.Common.{◌∷◌, [], ◌++◌, ap, ◌∙◌}
use Rattle.ring_model.specs.declared.events.Entry.{Entry}
use Rattle.wrong_shared_bodies.proofs.Farmed.{ends_alike}
use Rattle.wrong_shared_bodies.proofs.farms.actions_in_another_order.Goals as goal

pub returns : goal.returns
returns g c = record {
  wrong = λ p. ends_alike _ _ _ _ _ _ _ _ c.pop-2.new.self.items _ _ _ c.in_ok-ring.ensures.promised p c.in_ok-log.ensures.items c.in-Ok-push-2.ensures.items
      (c.in_ok-last.ensures.items ∙ ap (λ (e : Entry). c.pop-2.new.self.items ++ e ∷ []) c.in-Survey.is) c.in-Ok-push.ensures.items;
}
