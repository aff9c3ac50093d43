use Rattle.std.specs.List.{IsDistinct}
use Rattle.ring_farm.proofs.rings.end.Goals as goal

pub close-requires : goal.close-requires
unfolding IsDistinct
close-requires g c = rw c.new.ensures.items tt
