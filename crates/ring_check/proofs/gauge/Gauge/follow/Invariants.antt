use Rattle.ring_check.specs.Gauges.{ring_of, IsGauge}
use Rattle.ring_check.proofs.Gauging.{Agrees}
use Rattle.ring_check.proofs.gauge.Gauge.follow.Given as goal

abbrev pub invariant-loop-i : goal.invariant-loop-i
invariant-loop-i l = record {
  gauge : IsGauge l.self;
  agrees : Agrees l.fn.self.k l.i (ring_of l.self) l.values;
}
