use Rattle.ring_model.proofs.Tallied.{tally_is}
use Rattle.ring_model.proofs.tallies.Tally.of.Goals as goal

pub returns : goal.returns
returns c = tally_is c.args.events.now c.last_grant-grants.result.0 c.last_grant-grants.result.1 c.args.quiet c.last_grant-grants.ensures.number c.last_grant-grants.ensures.result c.requires
