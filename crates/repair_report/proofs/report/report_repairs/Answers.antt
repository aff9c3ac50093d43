use Rattle.std.proofs.Common.{◌≡◌, ◌∙◌, ap, arith}
use Rattle.std.proofs.lemmas.Result.{IfErr-weaker, on_ok_weaker}
use Rattle.ring_repairs.specs.Studies.{StudyData, trial_count}
use Rattle.repair_report.proofs.Reporting.{reported_of, part_of}
use Rattle.repair_report.proofs.report.report_repairs.Goals as goal

pub report_done-requires : goal.report_done-requires
report_done-requires g c =
    let none : c.in-Ok.repairs.done ≡ 0 = c.in-Ok.ensures.none.1 in
    let asked : c.count-trials.result ≡ trial_count c.in-Ok.repairs.study = c.count-trials.ensures.is ∙ ap (λ (s : StudyData). trial_count s) c.study.ensures in
    let same : trial_count c.advance_on.new.repairs.study ≡ trial_count c.in-Ok.repairs.study = ap (λ (s : StudyData). trial_count s) c.advance_on.ensures.study in
    let done = c.in-Ok-advance_on.ensures.done in
    omega arith

pub returns-clause-ok : goal.returns-clause-ok
returns-clause-ok g c =
    on_ok_weaker c.report_done.result (λ h. reported_of _ c.args.study _ _ _ _ _ (c.advance_on.ensures.study ∙ c.in-Ok.ensures.none.0) h) c.report_done.ensures.ok

pub returns-clause-err : goal.returns-clause-err
returns-clause-err g c =
    IfErr-weaker c.report_done.result _ _ (λ e h q. part_of _ c.args.study _ _ _ (c.advance_on.ensures.study ∙ c.in-Ok.ensures.none.0) (h q)) c.report_done.ensures.err
