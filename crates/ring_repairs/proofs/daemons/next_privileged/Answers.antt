use Rattle.std.proofs.Common.{◌≡◌, ℕ, ◌-◌, length, ◌∙◌, ap, arith}
use Rattle.ring_model.specs.Numbers.{least}
use Rattle.ring_model.proofs.Settled.{first_is}
use Rattle.ring_state.specs.Sizes.{Size}
use Rattle.machine_masks.specs.Members.{is_in}
use Rattle.ring_repairs.specs.Daemons.{privileged_from}
use Rattle.ring_repairs.proofs.Marks.{from_marked, next_here, next_over}
use Rattle.ring_repairs.proofs.daemons.next_privileged.Goals as goal

pub returns-then-machine-n-clause-is : goal.returns-then-machine-n-clause-is
returns-then-machine-n-clause-is c =
    let s = c.args.ring.now.values in
    let from = c.args.from in
    let n : c.n-n.result ≡ length s = c.n-n.ensures.is ∙ ap (λ (x : Size). x.n) c.params.ensures.is in
    let below = c.requires.from in
    let is : c.first_from-machine.result ≡ privileged_from s from =
    c.first_from-machine.ensures ∙ ap (λ (x : ℕ). least (is_in c.args.privileged.now) from (x - from)) n
    ∙ from_marked s c.args.privileged.now from c.requires.marked c.params.ensures.ring.most_machines (omega arith) in
    next_here s from c.first_from-machine.result is (omega arith)

pub returns-else-machine-n-clause-is : goal.returns-else-machine-n-clause-is
returns-else-machine-n-clause-is c =
    let s = c.args.ring.now.values in
    let from = c.args.from in
    let n : c.n-n.result ≡ length s = c.n-n.ensures.is ∙ ap (λ (x : Size). x.n) c.params.ensures.is in
    let below = c.requires.from in
    let is : c.first_from-machine.result ≡ privileged_from s from =
    c.first_from-machine.ensures ∙ ap (λ (x : ℕ). least (is_in c.args.privileged.now) from (x - from)) n
    ∙ from_marked s c.args.privileged.now from c.requires.marked c.params.ensures.ring.most_machines (omega arith) in
    c.first_privileged.ensures ∙ next_over s from c.first_from-machine.result is (omega arith)

pub returns-else-machine-n-clause-machine : goal.returns-else-machine-n-clause-machine
returns-else-machine-n-clause-machine c =
    let s = c.args.ring.now.values in
    let two = c.params.ensures.ring.ring.two in
    let first = first_is s (omega arith) in
    let less = first.0 in
    let is = c.first_privileged.ensures in
    omega arith
