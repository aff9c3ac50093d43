use Rattle.std.specs.Io.KnownBytes.{Appends}
use Rattle.saved_history.specs.Content.{block_of}
use Rattle.history_picture.specs.Stretches.{pieces}
use Rattle.history_motion.specs.Motion.{machine_text}
use Rattle.history_motion.proofs.machines.put_machines.Given as goal

abbrev pub invariant-loop-machine : goal.invariant-loop-machine
invariant-loop-machine g l = Appends (g.W.Write.contents l.initial.out) (g.W.Write.contents l.out) (pieces (machine_text (block_of l.ring) l.from l.columns) l.machine)
