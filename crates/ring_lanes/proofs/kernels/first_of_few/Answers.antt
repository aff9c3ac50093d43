use Rattle.std.proofs.Common.{◌-◌, arith}
use Rattle.ring_lanes.proofs.Blocks.{none_then, none_in_block, none_before_lowest}
use Rattle.ring_lanes.proofs.kernels.first_of_few.Goals as goal

pub returns-then-hits-ne0-clause-before : goal.returns-then-hits-ne0-clause-before
returns-then-hits-ne0-clause-before g c =
    none_then (g.P.Probe.hit c.args.p.now) _ _ _ c.loop-i.invariant.before
    (λ k low high. none_before_lowest (g.P.Probe.hit c.args.p.now) c.loop-i.i 8 c.few_hits-hits.result k (omega arith) c.few_hits-hits.ensures c.if-hits-ne0.true low high)

pub loop-i-preserved : goal.loop-i-preserved
loop-i-preserved g c = record {
  low = omega arith;
  high = omega arith;
  before = none_then (g.P.Probe.hit c.args.p.now) _ _ _ c.loop-i.invariant.before
      (λ k low high. none_in_block (g.P.Probe.hit c.args.p.now) c.loop-i.i 8 c.few_hits-hits.result k c.few_hits-hits.ensures c.if-hits-ne0.false low high);
}

pub returns-then-hits-ne0-2-clause-before : goal.returns-then-hits-ne0-2-clause-before
returns-then-hits-ne0-2-clause-before g c =
    let p = g.P.Probe.hit c.args.p.now in
    let n = g.P.Probe.size c.args.p.now in
    none_then p _ _ _ c.loop-i.invariant.before
    (λ k low high. none_before_lowest p c.loop-i.i (n - c.loop-i.i) c.last_few_hits-hits.result k (omega arith) c.last_few_hits-hits.ensures c.if-hits-ne0-2.true low high)

pub returns-else-hits-ne0-2-clause-before : goal.returns-else-hits-ne0-2-clause-before
returns-else-hits-ne0-2-clause-before g c =
    let p = g.P.Probe.hit c.args.p.now in
    let n = g.P.Probe.size c.args.p.now in
    none_then p _ _ _ c.loop-i.invariant.before
    (λ k low high. none_in_block p c.loop-i.i (n - c.loop-i.i) c.last_few_hits-hits.result k c.last_few_hits-hits.ensures c.if-hits-ne0-2.false low (omega arith))
