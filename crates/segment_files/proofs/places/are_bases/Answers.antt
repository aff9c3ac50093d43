use Rattle.segment_files.proofs.Pairings.{too_few}
use Rattle.segment_files.proofs.PlaceLists.{lefts}
use Rattle.segment_files.proofs.places.are_bases.Goals as goal

pub returns-then-bases-places : goal.returns-then-bases-places
returns-then-bases-places c = ((λ h. absurd (cc)), (λ h. absurd (too_few lefts c.args.places.now c.args.bases.now c.if-bases-places.true h)))
