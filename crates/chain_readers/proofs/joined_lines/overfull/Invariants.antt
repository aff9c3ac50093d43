use Rattle.segment_files.proofs.Pairings.{SoFar}
use Rattle.segment_files.proofs.PlaceLists.{AreShortRings}
use Rattle.chain_readers.proofs.joined_lines.overfull.Given as goal

abbrev pub invariant-loop-i : goal.invariant-loop-i
invariant-loop-i l = SoFar AreShortRings l.rings l.i
