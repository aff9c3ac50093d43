use Rattle.std.proofs.Common.{◌++◌, ap, ◌∙◌}
use Rattle.ring_logs.specs.LogView.{LogView}
use Rattle.ring_logs.specs.Fronts.{surveys_of}
use Rattle.ring_logs.proofs.AllSurveys.{logs_further}
use Rattle.ring_logs.proofs.gathering.gather_surveys.Goals as goal

pub loop-log-preserved : goal.loop-log-preserved
loop-log-preserved c =
    logs_further c.args.logs.now c.loop-log.log-index c.log-item.result c.loop-log.surveys.items _ c.loop-log-test.true c.loop-log.invariant
    (c.in_ok-add_all.ensures ∙ ap (λ (t : LogView). c.loop-log.surveys.items ++ surveys_of t.log) (c.log.view_is ∙ c.log-item.is))
