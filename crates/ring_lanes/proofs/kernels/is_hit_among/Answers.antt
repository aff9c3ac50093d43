use Rattle.ring_lanes.proofs.Joined.{some_joined, none_joined}
use Rattle.ring_lanes.proofs.kernels.is_hit_among.Goals as goal

pub returns-clause-found : goal.returns-clause-found
returns-clause-found g c = some_joined (g.P.Probe.hit c.args.p.now) c.args.end _ _ _ _ c.requires.low c.hits-first.ensures c.hits-second.ensures c.hits-third.ensures c.hits-fourth.ensures

pub returns-clause-none : goal.returns-clause-none
returns-clause-none g c = none_joined (g.P.Probe.hit c.args.p.now) c.args.end _ _ _ _ c.requires.low c.hits-first.ensures c.hits-second.ensures c.hits-third.ensures c.hits-fourth.ensures
