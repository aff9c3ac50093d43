use Rattle.std.proofs.Common.{[]}
use Rattle.segment_files.specs.Files.{AreBases}
use Rattle.segment_files.proofs.Pairings.{SoFar}
use Rattle.segment_files.proofs.places.are_none.Given as goal

abbrev pub invariant-loop-base : goal.invariant-loop-base
invariant-loop-base l = SoFar (AreBases []) l.bases l.base-index
