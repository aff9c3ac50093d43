use Rattle.std.proofs.Common.{map, length}
use denote.Text.{Utf8}
use denote.Shadow.{shadow}
use Rattle.folder_of_locks.specs.Lists.{listed}
use Rattle.folder_of_locks.specs.ListSteps.{HasRead}
use Rattle.folder_of_locks.proofs.list_reading.read_ended.Given as goal

abbrev pub invariant-loop-piece : goal.invariant-loop-piece
invariant-loop-piece l = shadow (Utf8 l.rest) × HasRead l.end l.mark l.text (map listed l.locks.items) l.rest

abbrev pub decreases-loop-piece : goal.decreases-loop-piece
decreases-loop-piece l = length l.rest
