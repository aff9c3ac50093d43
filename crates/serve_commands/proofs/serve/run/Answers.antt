use Rattle.std.proofs.Common.{inl, inr}
use Rattle.serve_commands.proofs.serve.run.Goals as goal

pub returns-in-Err-run_on-clause-err : goal.returns-in-Err-run_on-clause-err
returns-in-Err-run_on-clause-err g c = inr (c.in-Ok.saved, c.in-Ok.ensures.ok, inl c.in-Err-run_on.ensures.err)

pub returns-clause-err : goal.returns-clause-err
returns-clause-err g c =
    inr (c.in-Ok.saved, c.in-Ok.ensures.ok, inr (c.in-Ok-run_on.end, c.in-Ok-run_on.ensures.ok, c.in-Err-tell_totals.ensures.err))

-- ---- what a loss of power leaves

pub returns-in-Err-run_on-clause-lasts : goal.returns-in-Err-run_on-clause-lasts
returns-in-Err-run_on-clause-lasts g c = λ synced some. inr (c.in-Ok.saved, c.in-Ok.ensures.ok, c.run_on.ensures.lasts synced some)

pub returns-in-Ok-tell_totals-clause-lasts : goal.returns-in-Ok-tell_totals-clause-lasts
returns-in-Ok-tell_totals-clause-lasts g c = λ synced some. inr (c.in-Ok.saved, c.in-Ok.ensures.ok, c.run_on.ensures.lasts synced some)

pub returns-clause-lasts : goal.returns-clause-lasts
returns-clause-lasts g c = λ synced some. inr (c.in-Ok.saved, c.in-Ok.ensures.ok, c.run_on.ensures.lasts synced some)
