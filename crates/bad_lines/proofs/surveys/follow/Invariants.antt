use Rattle.std.proofs.Common.{map, take}
use Rattle.ring_check.specs.Table.{event_of}
use Rattle.bad_lines.specs.Replays.{Stands}
use Rattle.bad_lines.proofs.surveys.follow.Given as goal

abbrev pub invariant-loop-i : goal.invariant-loop-i
invariant-loop-i l = Stands l.start (map event_of (take l.i l.events)) l.replay
