use Rattle.std.proofs.Common.{ℕ, [], subst}
use Rattle.fresh_rings.specs.Fresh.{IsFreshRing}
use Rattle.fresh_rings.proofs.fresh_ring.Goals as goal

pub returns-in-Ok-clause-ok : goal.returns-in-Ok-clause-ok
returns-in-Ok-clause-ok c =
    subst (λ (n : ℕ). IsFreshRing (record { name = []; n = n; k = c.args.size.k }) c.in-Ok.ring) c.n.ensures.is
    (subst (λ (k : ℕ). IsFreshRing (record { name = []; n = c.n.result; k = k }) c.in-Ok.ring) c.k.ensures.is (c.in-Ok.ensures.ok []))
