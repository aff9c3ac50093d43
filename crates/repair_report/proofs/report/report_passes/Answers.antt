use Rattle.std.proofs.Common.{[], ◌∷◌}
use Rattle.std.specs.Prelude.{map}
use Rattle.std.proofs.lemmas.Result.{IfErr-weaker, on_ok_weaker}
use Rattle.repair_report.specs.Reports.{row_of, report_text}
use Rattle.repair_report.proofs.Reporting.{some_done, passes_report}
use Rattle.repair_report.proofs.report.report_passes.Goals as goal

pub unreachable-requires : goal.unreachable-requires
unreachable-requires g c =
    let r = c.args.repairs.now in
    let are = c.passes.ensures.counted in
    some_done r r.passes are c.requires.done are.counted.all c.in_default.ensures

pub returns-clause-ok : goal.returns-clause-ok
returns-clause-ok g c =
    let r = c.args.repairs.now in
    let p = c.in-Some.passes in
    let report = passes_report r c.args.lines p c.passes.ensures.counted c.requires.done c.requires.other c.in-Some.ensures in
    on_ok_weaker c.put_report.result (λ h. (map row_of (p ∷ []), report_text c.args.lines (p ∷ []), report, h.0, h.1)) c.put_report.ensures.ok

pub returns-clause-err : goal.returns-clause-err
returns-clause-err g c =
    let r = c.args.repairs.now in
    let p = c.in-Some.passes in
    let report = passes_report r c.args.lines p c.passes.ensures.counted c.requires.done c.requires.other c.in-Some.ensures in
    IfErr-weaker c.put_report.result _ _ (λ e h q. (map row_of (p ∷ []), report_text c.args.lines (p ∷ []), report, h q)) c.put_report.ensures.err
