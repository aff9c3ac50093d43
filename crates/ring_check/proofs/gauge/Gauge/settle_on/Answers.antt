use Rattle.std.proofs.Common.{sym, ◌∙◌}
use Rattle.ring_check.specs.Gauges.{ring_of}
use Rattle.ring_check.proofs.Gauging.{written_same}
use Rattle.ring_check.proofs.gauge.Gauge.settle_on.Goals as goal

pub returns-else-value-clause-ring : goal.returns-else-value-clause-ring
returns-else-value-clause-ring c = written_same (ring_of c.args.self.now) c.args.machine c.args.value (sym c.value.ensures ∙ c.if-value.false)
