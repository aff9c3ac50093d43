use Rattle.std.proofs.Common.{◌↔◌, ◌∙◌, All, List, IsTrue, subst}
use Rattle.std.specs.Prelude.{IfOk}
use Rattle.ring_model.specs.Resources.{till}
use Rattle.ring_model.specs.History.{opening}
use Rattle.ring_model.specs.Logs.{IsSurvey}
use Rattle.ring_model.specs.declared.events.Survey.{Survey}
use Rattle.one_thread_ring.proofs.resuming.surveys_hold.Goals as goal

pub returns : goal.returns
returns c =
    subst (λ (u : List Survey). IfOk c.surveys_fit.result (λ hold. IsTrue hold ↔ All (IsSurvey till (opening c.args.book.now.start 0) c.args.book.now.history) u))
    (c.deref.ensures.value ∙ c.in_ok-told.ensures) c.surveys_fit.ensures
