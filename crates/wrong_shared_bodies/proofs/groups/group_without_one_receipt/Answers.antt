use Rattle.std.proofs.Common.{refl}
use Rattle.wrong_shared_bodies.proofs.Blocks.{size_told}
use Rattle.wrong_shared_bodies.proofs.groups.group_without_one_receipt.Goals as goal

pub returns : goal.returns
returns g c = record { wrong = λ p. size_told _ _ _ _ _ _ _ _ c.requires.rising c.requires.fewer c.requires.some c.requires.apart c.requires.leaves_out refl c.in_ok-receipt.ensures.told p }
