use Rattle.std.proofs.Common.{arith}
use Rattle.wrong_bodies.proofs.Surveys.{one_call_more}
use Rattle.wrong_bodies.proofs.readers.counts_no_corruption.Goals as goal

pub returns : goal.returns
returns g c = record { wrong = λ e. let had = c.calls_of-calls.ensures.is in let more = one_call_more _ _ _ _ _ _ c.in_ok-corrupt.ensures.ok in omega arith }
