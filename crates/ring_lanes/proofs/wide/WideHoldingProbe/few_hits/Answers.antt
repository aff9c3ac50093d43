use Rattle.std.proofs.Common.{w16, eqb, arith}
use Rattle.std.proofs.lemmas.List.{take_rest}
use Rattle.ring_lanes.proofs.Blocks.{values_mask}
use Rattle.ring_lanes.proofs.wide.WideHoldingProbe.few_hits.Goals as goal

pub returns : goal.returns
returns c = simp take_rest (values_mask w16 (λ x y. eqb x y) c.args.self.now.values.now c.args.self.now.value c.args.i 8 (omega arith) c.requires.room)
