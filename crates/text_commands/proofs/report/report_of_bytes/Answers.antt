use Rattle.std.proofs.Common.{sym, ap, subst, ◌∙◌}
use Rattle.std.specs.Prelude.{slice_get}
use Rattle.saved_history.specs.Content.{Content, content}
use Rattle.ring_text.specs.SavedReport.{report_of, IsReportFault}
use Rattle.text_commands.proofs.report.report_of_bytes.Goals as goal

pub returns-in-Ok-clause-ok : goal.returns-in-Ok-clause-ok
returns-in-Ok-clause-ok c =
    let legal = c.in_ok-saved.ensures.ok in
    (c.in_ok-saved.sums, legal.0, c.in-Ok.ensures.ok ∙ ap report_of (sym legal.1))

pub returns-in-Err-Full-clause-err : goal.returns-in-Err-Full-clause-err
returns-in-Err-Full-clause-err c =
    let legal = c.in_ok-saved.ensures.ok in
    let full = subst (IsReportFault (content c.in_ok-saved.saved)) c.in-Err-Full.field-0-is c.in-Err-Full.ensures.err in
    (c.in_ok-saved.sums, legal.0, full.0, ap (λ (x : Content). slice_get x.rings c.in-Err-Full.place) legal.1 ∙ full.1, full.2)
