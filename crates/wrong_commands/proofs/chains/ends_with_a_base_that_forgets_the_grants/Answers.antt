use Rattle.std.proofs.Common.{◌≡◌, ℕ, List, [], ◌∷◌, ◌++◌, ◌∙◌, ap, sym, subst}
use Rattle.ring_service.specs.Standings.{Standing, standing_of}
use Rattle.ring_service.specs.Segments.{AreNext}
use Rattle.wrong_commands.proofs.Cuts.{is_cut, not_forgotten}
use Rattle.wrong_commands.proofs.chains.ends_with_a_base_that_forgets_the_grants.Goals as goal

pub returns-in-Some-cut : goal.returns-in-Some-cut
returns-in-Some-cut g c = record {
  wrong = λ bytes held service now known files h.
      let cut = is_cut h c.requires.due c.in-Some-cut.ensures.number known files in
      let rings : service.rings ≡ standing_of c.in-Some.ring ∷ [] = now ∙ (c.in-Some-cut.ensures.rings ∙ (c.in-Ok-add.ensures.ok ∙ ap (λ (x : List Standing). x ++ standing_of c.in-Some.ring ∷ []) c.none-next.ensures)) in
      not_forgotten (standing_of c.args.ring.now) (standing_of c.in-Some.ring) [] c.requires.grants c.in-Some.ensures
      (subst (λ (x : List Standing). AreNext x (standing_of c.in-Some.ring ∷ [])) c.requires.one (subst (λ (x : List Standing). AreNext c.args.served.now x) rings cut.next));
}
