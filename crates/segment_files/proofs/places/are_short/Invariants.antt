use Rattle.segment_files.proofs.Pairings.{SoFar}
use Rattle.segment_files.proofs.PlaceLists.{AreShortRings}
use Rattle.segment_files.proofs.places.are_short.Given as goal

abbrev pub invariant-loop-ring : goal.invariant-loop-ring
invariant-loop-ring l = SoFar AreShortRings l.rings l.ring-index
