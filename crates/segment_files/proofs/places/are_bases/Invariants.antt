use Rattle.segment_files.proofs.Pairings.{BothSoFar}
use Rattle.segment_files.proofs.PlaceLists.{AreLeft}
use Rattle.segment_files.proofs.places.are_bases.Given as goal

abbrev pub invariant-loop-i : goal.invariant-loop-i
invariant-loop-i l = BothSoFar AreLeft l.places l.bases l.i
