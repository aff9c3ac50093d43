use Rattle.std.proofs.Common.{◌≡◌, ◌∙◌, sym, ap, subst, length, arith, ℕ, List, map}
use Rattle.ring_model.specs.Ring.{Ring, ring_with, written}
use Rattle.ring_state.specs.Sizes.{IsRingState}
use Rattle.ring_state.proofs.Packing.{set_cell, set_state}
use Rattle.ring_state.proofs.packed.Packed.write.Goals as goal

pub invariant_of-self : goal.invariant_of-self
invariant_of-self g c =
    let number = g.C.Cell.number in
    let cells = c.self.inside.cells.items in
    let k : c.self.inside.k ≡ c.args.self.now.k = ap (λ (r : Ring). r.k) c.self.view_is in
    let n : length (map number cells) ≡ length c.args.self.now.values = ap (λ (r : Ring). length r.values) c.self.view_is in
    let machine = c.requires.machine in
    let value = c.requires.value in
    let kept : IsRingState (written (ring_with c.self.inside.k (map number cells)) c.args.i c.args.v) =
    set_state (ring_with c.self.inside.k (map number cells)) c.args.i c.args.v c.self.invariant.0 (omega arith) (omega arith) in (
      subst (λ (s : List ℕ). IsRingState (ring_with c.self.inside.k s)) (sym (set_cell number cells c.args.i c.args.v c.new.result c.new.ensures)) kept,
      c.self.invariant.1,
    )

pub returns-clause-new : goal.returns-clause-new
returns-clause-new g c =
    ap (λ (s : List ℕ). ring_with c.self.inside.k s) (set_cell g.C.Cell.number c.self.inside.cells.items c.args.i c.args.v c.new.result c.new.ensures)
    ∙ ap (λ (r : Ring). written r c.args.i c.args.v) c.self.view_is
