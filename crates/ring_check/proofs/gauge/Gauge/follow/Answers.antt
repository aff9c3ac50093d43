use Rattle.std.proofs.Common.{refl, sym, arith}
use Rattle.ring_check.specs.Gauges.{ring_of}
use Rattle.ring_check.proofs.Gauging.{agrees_more, agrees_all}
use Rattle.ring_check.proofs.gauge.Gauge.follow.Goals as goal

pub loop-i-init : goal.loop-i-init
loop-i-init c = record { gauge = c.requires.gauge; agrees = (refl, sym c.requires.same, λ j l. absurd (omega arith)) }

pub loop-i-preserved : goal.loop-i-preserved
loop-i-preserved c = record {
  gauge = c.settle_on.ensures.gauge;
  agrees = agrees_more c.args.self.now.k c.loop-i.i (ring_of c.loop-i.self) (ring_of c.settle_on.new.self) c.args.values.now c.loop-i-test.true c.loop-i.invariant.agrees c.settle_on.ensures.ring;
}

pub returns-clause-ring : goal.returns-clause-ring
returns-clause-ring c = agrees_all c.args.self.now.k c.loop-i.i (ring_of c.loop-i.self) c.args.values.now c.loop-i-test.false c.loop-i.invariant.agrees
