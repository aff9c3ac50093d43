use Rattle.std.proofs.Common.{ℕ, List, arith, subst, sym}
use Rattle.std.proofs.lemmas.List.{map-id}
use Rattle.ring_lanes.specs.Masks.{IsMaskOf}
use Rattle.ring_state.proofs.Packing.{widened}
use Rattle.ring_state.proofs.cells.U8Cell.mask.Goals as goal

pub returns : goal.returns
returns c =
    let few = c.requires.values in
    let done = c.loop-w-test.false in
    let w_end = c.loop-w.auto.w-end in
    subst (λ (s : List ℕ). IsMaskOf 1024 s c.loop-w.out) (sym (map-id c.args.cells.now))
    (widened c.args.cells.now c.privileged_mask.new.out c.loop-w.out few c.privileged_mask.array_long c.privileged_mask.ensures (λ w lt. c.loop-w.invariant w (omega arith)))
