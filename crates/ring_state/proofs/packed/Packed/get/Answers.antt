use Rattle.std.proofs.Common.{◌≡◌, ◌<◌, ap, length, arith, map}
use Rattle.ring_model.specs.Ring.{Ring}
use Rattle.ring_state.proofs.Packing.{below_k}
use Rattle.ring_state.proofs.packed.Packed.get.Goals as goal

pub returns-clause-below : goal.returns-clause-below
returns-clause-below g c =
    let number = g.C.Cell.number in
    let cells = c.self.inside.cells.items in
    let k : c.self.inside.k ≡ c.args.self.now.k = ap (λ (r : Ring). r.k) c.self.view_is in
    let n : length (map number cells) ≡ length c.args.self.now.values = ap (λ (r : Ring). length r.values) c.self.view_is in
    let lt = c.requires in
    let is = c.value.ensures in
    let small : number c.index.result.now < c.self.inside.k = below_k number c.self.inside.k cells c.args.i c.index.result.now c.self.invariant.0 (omega arith) c.index.ensures in
    omega arith
