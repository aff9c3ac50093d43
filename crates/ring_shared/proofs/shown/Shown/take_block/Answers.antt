use Rattle.std.proofs.Common.{length, sym, ap, ◌∙◌}
use Rattle.ring_model.specs.Ring.{Ring}
use Rattle.ring_shared.proofs.Folding.{ring_after_keeps}
use Rattle.ring_shared.proofs.shown.Shown.take_block.Goals as goal

pub go_to-requires-clause-machines : goal.go_to-requires-clause-machines
go_to-requires-clause-machines g c =
    ap (λ (r : Ring). length r.values) c.self.invariant.ring_is
    ∙ ((ring_after_keeps g.N.Name.start c.self.inside.front).1 ∙ sym (ap (λ (r : Ring). length r.values) c.requires.ring ∙ (ring_after_keeps g.N.Name.start c.args.front.now).1))

pub go_to-requires-clause-values : goal.go_to-requires-clause-values
go_to-requires-clause-values g c =
    ap (λ (r : Ring). r.k) c.self.invariant.ring_is
    ∙ ((ring_after_keeps g.N.Name.start c.self.inside.front).0 ∙ sym (ap (λ (r : Ring). r.k) c.requires.ring ∙ (ring_after_keeps g.N.Name.start c.args.front.now).0))
