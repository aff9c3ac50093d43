use Rattle.saved_history.specs.Content.{block_of}
use Rattle.history_motion.specs.Motion.{hit_in}
use Rattle.history_motion.proofs.Flags.{flags_more}
use Rattle.history_motion.proofs.seen.hits_in.Goals as goal

pub loop-column-preserved : goal.loop-column-preserved
loop-column-preserved c =
    flags_more (hit_in (block_of c.args.ring.now) c.args.from c.args.machine) c.loop-column.column c.loop-column.found.items c.push.new.self.items c.hit_in.result c.loop-column.invariant c.in_ok-push.ensures.items c.hit_in.ensures
