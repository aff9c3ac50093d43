use Rattle.std.proofs.Common.{◌≡◌, ◌-◌, take}
use Rattle.segment_files.specs.Remarks.{lines_in}
use Rattle.tool_parts.specs.LastPlace.{last_place, place_after}
use Rattle.folder_commands.proofs.place_remarks.place_among.Given as goal

abbrev pub invariant-loop : goal.invariant-loop
invariant-loop l = place_after l.found (take (l.many - l.counter) (lines_in l.rest)) ≡ last_place (take l.many (lines_in l.text))
