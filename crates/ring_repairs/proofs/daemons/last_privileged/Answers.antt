use Rattle.std.proofs.Common.{◌≡◌, length, ◌∙◌, ap, arith}
use Rattle.ring_state.specs.Sizes.{Size}
use Rattle.ring_repairs.proofs.Marks.{last_marked, some_marked}
use Rattle.ring_repairs.proofs.daemons.last_privileged.Goals as goal

pub last-requires-clause-some : goal.last-requires-clause-some
last-requires-clause-some c =
    let s = c.args.ring.now.values in
    let n : c.n.result ≡ length s = c.n.ensures.is ∙ ap (λ (x : Size). x.n) c.params.ensures.is in
    let some = some_marked s c.args.privileged.now c.requires c.params.ensures.ring.most_machines c.params.ensures.ring.ring.two in
    let below = some.1 in
    (some.0, omega arith, some.2)

pub returns : goal.returns
returns c =
    let s = c.args.ring.now.values in
    let n : c.n.result ≡ length s = c.n.ensures.is ∙ ap (λ (x : Size). x.n) c.params.ensures.is in
    let less = c.last.ensures.machine in
    last_marked s c.args.privileged.now c.last.result c.requires c.params.ensures.ring.most_machines (omega arith) c.last.ensures.member
    (λ i li ln. c.last.ensures.last i li (omega arith))
