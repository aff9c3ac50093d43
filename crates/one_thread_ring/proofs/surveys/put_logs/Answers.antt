use Rattle.saved_history.proofs.Passing.{below_more, below_fault, below_all}
use Rattle.one_thread_ring.proofs.SavedParts.{logs_spelled}
use Rattle.one_thread_ring.proofs.surveys.put_logs.Goals as goal

pub returns-in-Err-clause-written : goal.returns-in-Err-clause-written
returns-in-Err-clause-written g c = below_fault (logs_spelled g.L.SurveyLog.surveys) c.loop-log.invariant _ c.log-item.result _ c.log-item.is c.in-Err.fault c.loop-log-test.true c.in-Err.ensures.written

pub loop-log-preserved : goal.loop-log-preserved
loop-log-preserved g c = below_more (logs_spelled g.L.SurveyLog.surveys) c.loop-log.invariant _ c.log-item.result _ c.log-item.is c.loop-log-test.true c.in-Ok.ensures.written c.in-Ok.ensures.fits

pub returns : goal.returns
returns g c = let p = below_all (logs_spelled g.L.SurveyLog.surveys) c.loop-log.invariant c.loop-log-test.false in record { written = p.0; fits = p.1 }
