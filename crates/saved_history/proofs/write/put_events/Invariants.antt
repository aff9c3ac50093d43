use Rattle.saved_history.proofs.Passing.{WroteBelow}
use Rattle.saved_history.proofs.ValueParts.{events_text, EventsFit}
use Rattle.saved_history.proofs.write.put_events.Given as goal

abbrev pub invariant-loop-event : goal.invariant-loop-event
invariant-loop-event g l = WroteBelow events_text EventsFit (g.W.Write.contents l.initial.out) (g.W.Write.contents l.out) l.events l.event-index
