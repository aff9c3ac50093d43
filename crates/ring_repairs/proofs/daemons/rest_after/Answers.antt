use Rattle.std.proofs.Common.{◌≡◌, ℕ, List, ◌∙◌, ap}
use Rattle.ring_model.specs.Ring.{Ring, ring_with, moved_value, written, rest}
use Rattle.ring_repairs.specs.Daemons.{rest_after}
use Rattle.ring_repairs.proofs.Numbering.{move_back}
use Rattle.ring_repairs.proofs.daemons.rest_after.Goals as goal

pub returns-clause-rest : goal.returns-clause-rest
unfolding rest_after
returns-clause-rest c = c.rest-left.ensures.is ∙ ap rest c.move_machine.ensures.is

pub returns-clause-same : goal.returns-clause-same
returns-clause-same c =
    let r : Ring = c.args.ring.now in
    let i : ℕ = c.args.machine in
    let v : ℕ = c.get-value.result in
    c.write.ensures.new ∙ ap (λ (t : Ring). written t i v) c.move_machine.ensures.is
    ∙ ap (λ (vs : List ℕ). ring_with r.k vs) (move_back r i (moved_value r i) v c.requires.machine c.get-value.ensures.is)
