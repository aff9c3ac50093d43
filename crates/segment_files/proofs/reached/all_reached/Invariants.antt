use Rattle.std.proofs.Common.{◌≡◌, take, map}
use Rattle.saved_history.specs.Content.{block_of}
use Rattle.segment_files.specs.TornSigns.{reached_by}
use Rattle.segment_files.proofs.reached.all_reached.Given as goal

abbrev pub invariant-loop-i : goal.invariant-loop-i
invariant-loop-i l = l.found.items ≡ map reached_by (map block_of (take l.i l.rings))
