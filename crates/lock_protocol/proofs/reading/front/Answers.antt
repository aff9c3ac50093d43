use Rattle.std.proofs.Common.{refl}
use Rattle.lock_protocol.specs.Inputs.{front_of}
use Rattle.lock_protocol.proofs.Fronts.{front_length}
use Rattle.lock_protocol.proofs.reading.front.Goals as goal

pub slice_bounds-result-end : goal.slice_bounds-result-end
slice_bounds-result-end c = front_length c.args.line.now c.requires

pub returns : goal.returns
unfolding front_of
returns c = refl
