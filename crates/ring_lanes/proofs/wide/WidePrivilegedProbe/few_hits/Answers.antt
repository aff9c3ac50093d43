use Rattle.std.proofs.Common.{w16, arith}
use Rattle.std.proofs.lemmas.List.{take_rest}
use Rattle.ring_lanes.proofs.Blocks.{neighbours_mask}
use Rattle.ring_lanes.proofs.wide.WidePrivilegedProbe.few_hits.Goals as goal

pub returns : goal.returns
returns c = simp take_rest (neighbours_mask w16 c.args.self.now.0.now c.args.i 8 (omega arith) c.requires.low c.requires.room)
