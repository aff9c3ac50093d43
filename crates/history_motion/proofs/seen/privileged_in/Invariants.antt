use Rattle.std.proofs.Common.{◌≡◌}
use Rattle.saved_history.specs.Content.{block_of}
use Rattle.history_picture.specs.Picture.{privileged_in}
use Rattle.history_motion.specs.Motion.{flags}
use Rattle.history_motion.proofs.seen.privileged_in.Given as goal

abbrev pub invariant-loop-column : goal.invariant-loop-column
invariant-loop-column l = l.found.items ≡ flags (privileged_in (block_of l.ring) l.from l.machine) l.column
