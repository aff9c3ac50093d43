use Rattle.std.proofs.Common.{◌≡◌, ◌+◌, ◌-◌, ap, arith}
use Rattle.ring_lanes.specs.Hits.{count_from}
use Rattle.ring_lanes.proofs.Blocks.{count_from_block}
use Rattle.ring_lanes.proofs.kernels.count_hits.Goals as goal

pub returns : goal.returns
returns g c =
    let p = g.P.Probe.hit c.args.p.now in
    let n = g.P.Probe.size c.args.p.now in
    let i = c.loop-i.i in
    let f : i + (n - i) ≡ n = omega arith in
    let whole = ap (count_from p 0) f in
    let block = count_from_block p i (n - i) c.last_hits.result c.last_hits.ensures in
    omega arith
