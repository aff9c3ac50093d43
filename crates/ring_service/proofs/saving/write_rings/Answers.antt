use Rattle.std.proofs.Common.{List, map, subst}
use Rattle.ring_check.specs.Legal.{IsLegalText}
use Rattle.ring_service.specs.Standings.{Standing, standing_of}
use Rattle.ring_service.specs.Saved.{content_of}
use Rattle.ring_service.proofs.Legality.{content_legal, all_right}
use Rattle.ring_service.proofs.saving.write_rings.Goals as goal

pub returns-clause-legal : goal.returns-clause-legal
returns-clause-legal g c = subst (λ (rs : List Standing). IsLegalText (content_of rs)) c.rings.ensures.same (content_legal (map standing_of c.rings.result.now) (all_right c.rings.result.now c.rings.ensures.right))
