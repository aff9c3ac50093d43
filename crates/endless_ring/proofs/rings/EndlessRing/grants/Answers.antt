use Rattle.std.proofs.Common.{◌≡◌, ℕ, ◌+◌, ap, subst, arith}
use Rattle.endless_ring.specs.Endless.{EndlessView}
use Rattle.endless_ring.proofs.Segments.{tally_of, grants_now, end_small}
use Rattle.endless_ring.proofs.rings.EndlessRing.grants.Goals as goal

pub overflow_add-result : goal.overflow_add-result
overflow_add-result c =
    let small = end_small c.self.inside.ring c.tally.result c.self.invariant.is.ring (tally_of c.self.inside.base c.self.inside.ring c.args.self.now c.tally.result c.self.view_is c.tally.ensures) in
    let few = small.grants in
    let room = c.self.invariant.is.base.room in
    let base = c.self.invariant.is.base.grants in
    omega arith

pub returns : goal.returns
returns c =
    subst (λ (x : EndlessView). c.self.inside.base.grants + c.tally.result.grants ≡ x.base.grants + x.ring.book.now.grants) c.self.view_is
    (ap (λ (n : ℕ). c.self.inside.base.grants + n) (grants_now c.self.inside.ring c.tally.result c.self.invariant.is.ring (tally_of c.self.inside.base c.self.inside.ring c.args.self.now c.tally.result c.self.view_is c.tally.ensures)))
