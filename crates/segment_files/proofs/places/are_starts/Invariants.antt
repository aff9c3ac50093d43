use Rattle.segment_files.proofs.Pairings.{BothSoFar}
use Rattle.segment_files.proofs.PlaceLists.{AreBegun}
use Rattle.segment_files.proofs.places.are_starts.Given as goal

abbrev pub invariant-loop-i : goal.invariant-loop-i
invariant-loop-i l = BothSoFar AreBegun l.places l.rings l.i
