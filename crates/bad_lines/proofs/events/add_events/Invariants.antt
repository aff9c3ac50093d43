use Rattle.bad_lines.proofs.EventLines.{AreTold}
use Rattle.bad_lines.proofs.events.add_events.Given as goal

abbrev pub invariant-loop-i : goal.invariant-loop-i
invariant-loop-i l = AreTold l.line l.start l.events l.initial.out.items l.first l.i l.replay l.out.items
