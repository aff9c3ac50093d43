use Rattle.std.proofs.Common.{refl}
use Rattle.saved_history.proofs.Passing.{below_more, below_fault, below_all}
use Rattle.saved_history.proofs.ValueParts.{surveys_spelled}
use Rattle.saved_history.proofs.write.put_surveys.Goals as goal

pub returns-in-Err-clause-written : goal.returns-in-Err-clause-written
returns-in-Err-clause-written g c = below_fault surveys_spelled c.loop-survey.invariant _ _ _ refl c.in-Err.fault c.loop-survey-test.true c.in-Err.ensures.written

pub loop-survey-preserved : goal.loop-survey-preserved
loop-survey-preserved g c = below_more surveys_spelled c.loop-survey.invariant _ _ _ refl c.loop-survey-test.true c.in-Ok.ensures.written c.in-Ok.ensures.fits

pub returns : goal.returns
returns g c = let p = below_all surveys_spelled c.loop-survey.invariant c.loop-survey-test.false in record { written = p.0; fits = p.1 }
