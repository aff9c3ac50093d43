use Rattle.segment_files.proofs.Pairings.{too_few}
use Rattle.segment_files.proofs.PlaceLists.{begun}
use Rattle.segment_files.proofs.places.are_starts.Goals as goal

pub returns-then-rings-places : goal.returns-then-rings-places
returns-then-rings-places c = ((λ h. absurd (cc)), (λ h. absurd (too_few begun c.args.places.now c.args.rings.now c.if-rings-places.true h)))
