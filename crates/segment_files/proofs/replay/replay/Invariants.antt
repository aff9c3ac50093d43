use Rattle.segment_files.proofs.Standing.{Stands}
use Rattle.segment_files.proofs.replay.replay.Given as goal

abbrev pub invariant-loop-event : goal.invariant-loop-event
invariant-loop-event l = Stands l.k l.start l.events l.event-index l.values.items l.amount l.grants l.calm
