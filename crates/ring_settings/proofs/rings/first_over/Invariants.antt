use Rattle.std.proofs.Common.{◌≡◌, drop}
use Rattle.ring_settings.specs.Rings.{first_over}
use Rattle.ring_settings.proofs.rings.first_over.Given as goal

abbrev pub invariant-loop-i : goal.invariant-loop-i
invariant-loop-i l = first_over l.k 0 l.values ≡ first_over l.k l.i (drop l.i l.values)
