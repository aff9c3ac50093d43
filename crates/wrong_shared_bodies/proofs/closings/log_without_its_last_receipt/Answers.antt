use Rattle.std.proofs.Common.{◌∷◌, [], ◌++◌, ap, ◌∙◌, refl}
use Rattle.ring_model.specs.declared.events.Entry.{Entry}
use Rattle.ring_model.specs.History.{opening}
use Rattle.wrong_shared_bodies.proofs.Closed.{receipt_lost}
use Rattle.wrong_shared_bodies.proofs.closings.log_without_its_last_receipt.Goals as goal

pub returns : goal.returns
returns g c = record {
  wrong = λ p. receipt_lost g.R.Resource.works (opening g.N.Name.start g.R.Resource.first) _ c.in-Ok.closed.logs.items c.push.new.self.items c.pop.new.self.items c.in_ok-last.last _ _
      c.in-Ok.ensures.fits p c.in_ok-last.ensures.items c.in-Ok-push.ensures.items
      (c.in_ok-entry.ensures.items ∙ ap (λ (e : Entry). c.pop-2.new.self.items ++ e ∷ []) c.in-Receipt.is) refl;
}
