use Rattle.std.proofs.Common.{inl, inr}
use Rattle.std.proofs.lemmas.Result.{err_from_is_err_and}
use Rattle.run_commands.proofs.Entries.{entries_few}
use Rattle.run_commands.proofs.in_turn.run.Goals as goal

pub returns-in_err-outcome-clause-err : goal.returns-in_err-outcome-clause-err
returns-in_err-outcome-clause-err g c =
    let p = err_from_is_err_and c.from_residual.result c.from_residual.ensures.1 in
    rw (p.1, p.2) (inl c.in_err-outcome.ensures.err)

pub hand_out-requires-clause-few : goal.hand_out-requires-clause-few
hand_out-requires-clause-few g c =
    let f = c.in_ok-outcome.ensures.ok.3 in
    entries_few f.0 c.in_ok-outcome.outcome f.2

pub returns-in-Ok-clause-ok : goal.returns-in-Ok-clause-ok
returns-in-Ok-clause-ok g c =
    let f = c.in_ok-outcome.ensures.ok.3 in
    (c.in_ok-outcome.outcome, c.in_ok-outcome.ensures.ok, c.in-Ok.ensures.stored, c.in-Ok.ensures.told, λ some. c.in-Ok.ensures.legal some f.0 f.2)

pub returns-clause-err : goal.returns-clause-err
returns-clause-err g c = inr (c.in_ok-outcome.outcome, c.in_ok-outcome.ensures.ok, c.in-Err.ensures.err)
