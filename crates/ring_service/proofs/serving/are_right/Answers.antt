use Rattle.std.proofs.Common.{List, subst}
use Rattle.std.specs.List.{AllByRecursion}
use Rattle.ring_service.specs.Standings.{Standing}
use Rattle.ring_service.specs.Saved.{IsRight}
use Rattle.ring_service.proofs.Legality.{all_right}
use Rattle.ring_service.proofs.serving.are_right.Goals as goal

pub returns : goal.returns
returns c = subst (λ (x : List Standing). AllByRecursion IsRight x) c.rings.ensures.same (all_right c.rings.result.now c.rings.ensures.right)
