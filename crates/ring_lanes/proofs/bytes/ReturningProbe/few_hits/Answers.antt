use Rattle.std.proofs.Common.{arith}
use Rattle.std.proofs.lemmas.List.{take_rest}
use Rattle.ring_lanes.proofs.Returning.{returning_mask}
use Rattle.ring_lanes.proofs.bytes.ReturningProbe.few_hits.Goals as goal

pub returns : goal.returns
returns c = simp take_rest (returning_mask c.args.self.now.0.now c.args.i 8 (omega arith) c.requires.low c.requires.room)
