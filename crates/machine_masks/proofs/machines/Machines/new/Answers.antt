use Rattle.std.proofs.Common.{sym}
use Rattle.ring_model.specs.Limits.{machine_limit}
use Rattle.machine_masks.proofs.Sets.{nobody_in, nobody_counts}
use Rattle.machine_masks.proofs.machines.Machines.new.Goals as goal

pub invariant_of-result : goal.invariant_of-result
invariant_of-result c = sym (nobody_counts 16 machine_limit)

pub returns : goal.returns
returns c = λ i. nobody_in 16 i
