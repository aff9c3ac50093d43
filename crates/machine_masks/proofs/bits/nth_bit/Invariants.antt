use Rattle.machine_masks.proofs.Ones.{AreLeft}
use Rattle.machine_masks.proofs.bits.nth_bit.Given as goal

abbrev pub invariant-loop : goal.invariant-loop
invariant-loop l = AreLeft l.word l.left l.counter
