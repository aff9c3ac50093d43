use Rattle.std.proofs.Common.{◌≡◌, length, ◌∙◌, ap, arith}
use Rattle.ring_model.specs.Ring.{Ring}
use Rattle.ring_model.proofs.Moves.{length_move}
use Rattle.ring_state.specs.Sizes.{Size}
use Rattle.machine_masks.proofs.Marks.{right_is, move_marked}
use Rattle.machine_masks.proofs.privileges.pass.Goals as goal

pub is_privileged-requires : goal.is_privileged-requires
is_privileged-requires c =
    let r : Ring = c.args.ring.now in
    let n : c.n-n.result ≡ length r.values = c.n-n.ensures.is ∙ ap (λ (x : Size). x.n) c.params.ensures.is in
    let right = right_is r.values c.args.machine c.right_of-right.result c.n-n.result n c.params.ensures.ring.ring.two c.requires.machine c.right_of-right.ensures.last
    c.right_of-right.ensures.inner in
    let long : length c.move_machine.new.self.values ≡ length r.values =
    ap (λ (x : Ring). length x.values) c.move_machine.ensures.is ∙ length_move r c.args.machine in
    let below = right.below in
    omega arith

pub returns-clause-marked : goal.returns-clause-marked
returns-clause-marked c =
    let r : Ring = c.args.ring.now in
    let n : c.n-n.result ≡ length r.values = c.n-n.ensures.is ∙ ap (λ (x : Size). x.n) c.params.ensures.is in
    let right = right_is r.values c.args.machine c.right_of-right.result c.n-n.result n c.params.ensures.ring.ring.two c.requires.machine c.right_of-right.ensures.last
    c.right_of-right.ensures.inner in
    let long : length c.move_machine.new.self.values ≡ length r.values =
    ap (λ (x : Ring). length x.values) c.move_machine.ensures.is ∙ length_move r c.args.machine in
    move_marked r c.move_machine.new.self c.args.privileged.now c.set.new.self c.set-2.new.self c.args.machine c.right_of-right.result c.requires.marked
    c.move_machine.ensures.closure long c.params.ensures.ring.most_machines c.requires.machine right c.set.ensures.at c.set.ensures.others
    (c.set-2.ensures.at ∙ c.is_privileged.ensures) c.set-2.ensures.others
