use Rattle.std.proofs.Common.{sym, subst}
use Rattle.text_commands.specs.Reported.{IsReportOf}
use Rattle.text_commands.proofs.report.print_report.Goals as goal

pub returns-in-Ok-clause-ok : goal.returns-in-Ok-clause-ok
returns-in-Ok-clause-ok g c =
    (c.as_slice.result.now, subst (IsReportOf c.args.bytes.now) (sym c.as_slice.ensures.value) c.in_ok-text.ensures.ok, c.in-Ok.ensures)

pub returns-clause-err : goal.returns-clause-err
returns-clause-err g c =
    (c.as_slice.result.now, subst (IsReportOf c.args.bytes.now) (sym c.as_slice.ensures.value) c.in_ok-text.ensures.ok, c.in-Err.ensures)
