use Rattle.std.proofs.Common.{arith}
use Rattle.wrong_shared_bodies.proofs.Blocks.{first_told}
use Rattle.wrong_shared_bodies.proofs.groups.group_at_another_position.Goals as goal

pub returns-then-receipt-eq0 : goal.returns-then-receipt-eq0
returns-then-receipt-eq0 g c = record { wrong = λ p. omega (arith, first_told _ _ _ _ _ _ _ c.in_ok-receipt.ensures.told p) }

pub returns-else-receipt-eq0 : goal.returns-else-receipt-eq0
returns-else-receipt-eq0 g c = record { wrong = λ p. omega (arith, first_told _ _ _ _ _ _ _ c.in_ok-receipt.ensures.told p) }
