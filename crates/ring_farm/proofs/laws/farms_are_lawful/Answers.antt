use Rattle.ring_farm.proofs.Lawful as lawful
use Rattle.ring_farm.proofs.laws.farms_are_lawful.Goals as goal

pub returns : goal.returns
returns c = record { rings = lawful.rings_are_lawful; farms = lawful.farms_are_lawful }
