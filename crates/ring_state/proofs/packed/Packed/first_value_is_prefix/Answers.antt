use Rattle.std.proofs.Common.{◌≡◌, ◌∙◌, ap, arith, length, map}
use Rattle.ring_model.specs.Ring.{Ring, first_value_is_prefix}
use Rattle.ring_lanes.proofs.Meaning.{prefix_means}
use Rattle.ring_state.proofs.packed.Packed.first_value_is_prefix.Goals as goal

pub returns-clause-prefix : goal.returns-clause-prefix
returns-clause-prefix g c =
    let number = g.C.Cell.number in
    let test : c.first_value_is_prefix.result ≡ first_value_is_prefix c.args.self.now.values =
    c.first_value_is_prefix.ensures
    ∙ ap (λ cells. first_value_is_prefix (map number cells)) c.as_slice.ensures.value
    ∙ ap (λ (r : Ring). first_value_is_prefix r.values) c.self.view_is in
    let n : length (map number c.self.inside.cells.items) ≡ length c.args.self.now.values = ap (λ (r : Ring). length r.values) c.self.view_is in
    let two = c.self.invariant.0.ring.two in
    prefix_means c.args.self.now.values c.first_value_is_prefix.result (omega arith) test
