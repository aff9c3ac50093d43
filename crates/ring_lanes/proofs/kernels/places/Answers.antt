use Rattle.ring_lanes.proofs.Weights.{places_weigh}
use Rattle.ring_lanes.proofs.kernels.places.Goals as goal

pub returns : goal.returns
returns c p n a m short le e = places_weigh p n a m c.args.hits short le e
