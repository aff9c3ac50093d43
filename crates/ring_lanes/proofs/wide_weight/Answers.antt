use Rattle.std.proofs.Common.{◌∙◌, arith}
use Rattle.ring_lanes.proofs.Meaning.{weight_privileged}
use Rattle.ring_lanes.proofs.wide_weight.Goals as goal

pub returns : goal.returns
returns c = c.weigh_hits.ensures ∙ weight_privileged c.args.s.now (omega arith)
