use Rattle.std.proofs.Common.{map}
use Rattle.segment_files.specs.Files.{Place}
use Rattle.segment_files.specs.Chain.{place_in}
use Rattle.segment_files.proofs.Totals.{AddsUp}
use Rattle.segment_files.proofs.sums.grants.Given as goal

abbrev pub invariant-loop-place : goal.invariant-loop-place
invariant-loop-place l = AddsUp (λ (p : Place). p.base.grants) (map place_in l.places) l.place-index l.sum
