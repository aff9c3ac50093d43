use Rattle.std.proofs.Common.{◌≡◌, ◌∙◌, ap, not, map}
use Rattle.ring_model.specs.Ring.{Ring, is_absent}
use Rattle.ring_state.proofs.Packing.{held_means}
use Rattle.ring_state.proofs.packed.Packed.holds_past_first.Goals as goal

pub returns-clause-held : goal.returns-clause-held
returns-clause-held g c =
    let number = g.C.Cell.number in
    let cells = c.self.inside.cells.items in
    let inside : c.holds_past_first.result ≡ not (is_absent (map number cells) c.args.v) =
    c.holds_past_first.ensures ∙ ap (λ xs. not (is_absent (map number xs) c.args.v)) c.as_slice.ensures.value in
    let whole : not (is_absent (map number cells) c.args.v) ≡ not (is_absent c.args.self.now.values c.args.v) =
    ap (λ (r : Ring). not (is_absent r.values c.args.v)) c.self.view_is in
    held_means c.args.self.now.values c.args.v c.holds_past_first.result (inside ∙ whole)
