use Rattle.std.proofs.Common.{inr, refl}
use Rattle.std.proofs.lemmas.Result.{IfErr-weaker}
use Rattle.c_calls.specs.Sealed.{IsLastRefused, IsSegmentAnswer}
use Rattle.c_calls.proofs.segments.go_on.Goals as goal

pub returns-in-Ok-clause-err : goal.returns-in-Ok-clause-err
returns-in-Ok-clause-err c =
    IfErr-weaker c.go_on_in.result (λ code. IsLastRefused c.in-Ok.last c.args.seats code) (λ code. IsSegmentAnswer c.args.bytes.now c.args.seats code 0)
    (λ code why. inr (c.in-Ok.last, c.in-Ok.ensures.right, refl, λ _. why)) c.go_on_in.ensures.err
