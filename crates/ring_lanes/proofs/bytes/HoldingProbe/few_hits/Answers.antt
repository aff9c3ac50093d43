use Rattle.std.proofs.Common.{w8, eqb, arith}
use Rattle.std.proofs.lemmas.List.{take_rest}
use Rattle.ring_lanes.proofs.Blocks.{values_mask}
use Rattle.ring_lanes.proofs.bytes.HoldingProbe.few_hits.Goals as goal

pub returns : goal.returns
returns c = simp take_rest (values_mask w8 (λ x y. eqb x y) c.args.self.now.values.now c.args.self.now.value c.args.i 8 (omega arith) c.requires.room)
