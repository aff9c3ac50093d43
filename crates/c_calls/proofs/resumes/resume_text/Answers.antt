use Rattle.std.proofs.Common.{inr}
use Rattle.std.proofs.lemmas.Result.{IfOk-weaker, IfErr-weaker}
use Rattle.c_calls.specs.Resumed.{IsResumedAt, IsResumedFrom, IsPlaceRefused, IsSavedAnswer}
use Rattle.c_calls.proofs.resumes.resume_text.Goals as goal

pub returns-in-Ok-clause-ok : goal.returns-in-Ok-clause-ok
returns-in-Ok-clause-ok c =
    IfOk-weaker c.resume_at.result (λ d. IsResumedAt c.in-Ok.saved c.args.place c.args.seats d) (λ d. IsResumedFrom c.args.bytes.now c.args.place c.args.seats d)
    (λ d at. record { saved = c.in-Ok.saved; read = c.in-Ok.ensures.read; at = at }) c.resume_at.ensures.ok

pub returns-in-Ok-clause-err : goal.returns-in-Ok-clause-err
returns-in-Ok-clause-err c =
    IfErr-weaker c.resume_at.result (λ code. IsPlaceRefused c.in-Ok.saved c.args.place c.args.seats code) (λ code. IsSavedAnswer c.args.bytes.now c.args.place c.args.seats code c.legal_text.new.out)
    (λ code why. inr (c.in-Ok.ensures.verdict, λ _. record { saved = c.in-Ok.saved; read = c.in-Ok.ensures.read; why = why })) c.resume_at.ensures.err
