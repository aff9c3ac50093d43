use Rattle.saved_history.proofs.Loops.{head_fits}
use Rattle.saved_history.proofs.blocks.body.Goals as goal

pub rings-requires : goal.rings-requires
rings-requires c = head_fits c.args.bytes.now c.in_ok-first.first c.in_ok-first.rest.now c.in_ok-first.ensures
