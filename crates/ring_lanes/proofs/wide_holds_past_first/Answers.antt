use Rattle.ring_lanes.proofs.Meaning.{absent_decided}
use Rattle.ring_lanes.proofs.wide_holds_past_first.Goals as goal

pub returns-clause-absent : goal.returns-clause-absent
returns-clause-absent c = absent_decided c.args.s.now c.args.v c.any_hit.result c.any_hit.ensures.found c.any_hit.ensures.none
