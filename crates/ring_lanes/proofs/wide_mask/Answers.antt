use Rattle.std.proofs.Common.{arith, ◌/◌}
use Rattle.ring_lanes.specs.Hits.{privileged_at, within}
use Rattle.ring_lanes.proofs.Words.{bit_of_machine}
use Rattle.std.proofs.Common.{length}
use Rattle.ring_lanes.proofs.wide_mask.Goals as goal

pub returns : goal.returns
unfolding within privileged_at
returns c i lt = bit_of_machine (length c.args.s.now) (privileged_at c.args.s.now) i _ (c.write_hits.ensures (i / 64) (omega arith))
