use Rattle.std.proofs.Common.{◌∙◌}
use Rattle.ring_lanes.proofs.Meaning.{count_privileged}
use Rattle.ring_lanes.proofs.wide_count.Goals as goal

pub returns : goal.returns
returns c = c.count_hits.ensures ∙ count_privileged c.args.s.now
