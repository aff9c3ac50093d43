use Rattle.std.proofs.Common.{◌≡◌, ◌≤◌, ◌+◌, ◌*◌, ◌<◌, ◌^◌, length, ap, ◌∙◌, arith}
use Rattle.ring_model.specs.Ring.{bound}
use Rattle.ring_model.proofs.Bound.{potential_bounded, bound_small}
use Rattle.ring_state.specs.Sizes.{Size}
use Rattle.ring_settle.proofs.potential.rest_of_counted.Goals as goal

pub returns-clause-bounded : goal.returns-clause-bounded
returns-clause-bounded c =
    let n : c.n-n.result ≡ length c.args.state.now.values = c.n-n.ensures.is ∙ ap (λ (s : Size). s.n) c.params.ensures.is in
    rw (c.weight.ensures, c.lead.ensures.is, n) (potential_bounded c.args.state.now c.params.ensures.ring.ring)

pub overflow_add-result : goal.overflow_add-result
overflow_add-result c =
    let n : c.n-n.result ≡ length c.args.state.now.values = c.n-n.ensures.is ∙ ap (λ (s : Size). s.n) c.params.ensures.is in
    let values = c.n-n.ensures.size.values in
    let most = c.n-n.ensures.size.most in
    let p : c.weight.result + c.n-n.result * c.lead.result ≤ bound (length c.args.state.now.values) = returns-clause-bounded c in
    let q : bound (length c.args.state.now.values) < 2 ^ 40 = bound_small (length c.args.state.now.values) (omega arith) in
    omega arith
