use Rattle.std.proofs.Common.{◌≡◌, List, [], ◌∷◌, ◌++◌, map, subst, sym, ap, ◌∙◌, arith}
use Rattle.std.proofs.lemmas.Grind.{common_steps}
use Rattle.endless_ring.specs.Endless.{EndlessView}
use Rattle.ring_service.specs.Standings.{standing_of, AreRight}
use Rattle.ring_service.proofs.Placing.{right_more, standings_more}
use Rattle.ring_service.proofs.served.add_to.Goals as goal

pub returns-clause-right : goal.returns-clause-right
returns-clause-right c =
    let e : c.push_reserved.new.self.items ≡ c.args.rings.now.items ++ c.args.ring ∷ [] = grind (arith, common_steps) in
    subst (λ (xs : List EndlessView). AreRight xs) (sym e) (right_more c.args.rings.now.items c.args.ring c.requires.all c.requires.ring)

pub returns-clause-ok : goal.returns-clause-ok
returns-clause-ok c =
    let e : c.push_reserved.new.self.items ≡ c.args.rings.now.items ++ c.args.ring ∷ [] = grind (arith, common_steps) in
    ap (λ (xs : List EndlessView). map standing_of xs) e ∙ standings_more c.args.rings.now.items c.args.ring
