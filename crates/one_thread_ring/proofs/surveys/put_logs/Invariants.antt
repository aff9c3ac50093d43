use Rattle.saved_history.proofs.Passing.{WroteBelow}
use Rattle.one_thread_ring.proofs.SavedParts.{logs_text, LogsFit}
use Rattle.one_thread_ring.proofs.surveys.put_logs.Given as goal

abbrev pub invariant-loop-log : goal.invariant-loop-log
invariant-loop-log g l = WroteBelow (logs_text g.L.SurveyLog.surveys) (LogsFit g.L.SurveyLog.surveys) (g.W.Write.contents l.initial.out) (g.W.Write.contents l.out) l.logs l.log-index
