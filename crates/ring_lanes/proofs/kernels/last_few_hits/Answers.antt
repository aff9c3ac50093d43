use Rattle.ring_lanes.proofs.Words.{mask_rest}
use Rattle.ring_lanes.proofs.kernels.last_few_hits.Goals as goal

pub returns : goal.returns
returns g c =
    rw c.len-n.ensures (mask_rest 8 (g.P.Probe.hit c.args.p.now) (g.P.Probe.size c.args.p.now) c.args.i c.few_hits.result c.requires.long c.requires.high c.requires.near (rw (← c.len-n.ensures) c.few_hits.ensures))
