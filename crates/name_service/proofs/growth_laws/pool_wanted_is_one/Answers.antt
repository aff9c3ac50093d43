use Rattle.name_service.proofs.Wanting.{pool_wanted_is_one}
use Rattle.name_service.proofs.growth_laws.pool_wanted_is_one.Goals as goal

pub returns : goal.returns
returns c = pool_wanted_is_one
