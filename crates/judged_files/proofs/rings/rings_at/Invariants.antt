use Rattle.std.proofs.Common.{map}
use Rattle.saved_history.specs.Content.{block_of}
use Rattle.judged_files.proofs.Ringing.{AreFound}
use Rattle.judged_files.proofs.rings.rings_at.Given as goal

abbrev pub invariant-loop-i : goal.invariant-loop-i
invariant-loop-i l = AreFound l.bases (map block_of l.rings) l.i l.found.items
