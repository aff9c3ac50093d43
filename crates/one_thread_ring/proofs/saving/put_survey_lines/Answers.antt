use Rattle.std.proofs.Common.{refl}
use Rattle.saved_history.proofs.Passing.{below_more, below_fault, below_all}
use Rattle.one_thread_ring.proofs.Saved.{surveys_spelled}
use Rattle.one_thread_ring.proofs.saving.put_survey_lines.Goals as goal

pub returns-in-Err-clause-written : goal.returns-in-Err-clause-written
returns-in-Err-clause-written g c =
    below_fault (surveys_spelled c.args.seat) c.loop-survey.invariant _ _ _ refl c.in-Err.fault c.loop-survey-test.true (rw c.saved_survey.ensures.is at c.in-Err.ensures.written)

pub loop-survey-preserved : goal.loop-survey-preserved
loop-survey-preserved g c = below_more (surveys_spelled c.args.seat) c.loop-survey.invariant _ _ _ refl c.loop-survey-test.true
    (rw c.saved_survey.ensures.is at c.in-Ok.ensures.written) (rw c.saved_survey.ensures.is at c.in-Ok.ensures.fits)

pub returns : goal.returns
returns g c = let p = below_all (surveys_spelled c.args.seat) c.loop-survey.invariant c.loop-survey-test.false in record { written = p.0; fits = p.1 }
