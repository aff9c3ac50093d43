use Rattle.wrong_shared_bodies.proofs.Blocks.{log_grown}
use Rattle.wrong_shared_bodies.proofs.groups.group_refused_after_its_block.Goals as goal

pub returns : goal.returns
returns g c = record { wrong = λ p. log_grown _ _ _ _ _ _ c.in-Ok.ensures.told p }
