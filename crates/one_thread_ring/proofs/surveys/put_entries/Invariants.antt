use Rattle.saved_history.proofs.Passing.{WroteBelow}
use Rattle.one_thread_ring.proofs.SavedParts.{surveys_text, SurveysFit}
use Rattle.one_thread_ring.proofs.surveys.put_entries.Given as goal

abbrev pub invariant-loop-entry : goal.invariant-loop-entry
invariant-loop-entry g l = WroteBelow (surveys_text l.seat) (SurveysFit l.seat) (g.W.Write.contents l.initial.out) (g.W.Write.contents l.out) l.entries l.entry-index
