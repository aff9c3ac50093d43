use Rattle.std.proofs.Common.{inl, inr, refl, sym, subst}
use Rattle.std.proofs.lemmas.Result.{err_from_is_err_and}
use Rattle.history_commands.specs.WithRepairs.{IsRepairsReportOf}
use Rattle.history_commands.proofs.repairs.print_report.Goals as goal

pub returns-in_err-text-clause-err : goal.returns-in_err-text-clause-err
returns-in_err-text-clause-err g c =
    let p = err_from_is_err_and c.from_residual.result c.from_residual.ensures.1 in
    rw (p.1, p.2) (inl (c.in_err-text.ensures.err, refl))

pub returns-in-Ok-clause-ok : goal.returns-in-Ok-clause-ok
returns-in-Ok-clause-ok g c =
    (c.as_slice.result.now, subst (IsRepairsReportOf c.args.bytes.now) (sym c.as_slice.ensures.value) c.in_ok-text.ensures.ok, c.in-Ok.ensures)

pub returns-clause-err : goal.returns-clause-err
returns-clause-err g c =
    inr (refl, (c.as_slice.result.now, subst (IsRepairsReportOf c.args.bytes.now) (sym c.as_slice.ensures.value) c.in_ok-text.ensures.ok, c.in-Err.ensures))
