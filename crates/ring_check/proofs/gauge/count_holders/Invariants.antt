use Rattle.ring_check.proofs.Gauging.{AreCounted}
use Rattle.ring_check.proofs.gauge.count_holders.Given as goal

abbrev pub invariant-loop-i : goal.invariant-loop-i
invariant-loop-i l = AreCounted l.k l.values l.i l.counted.items
