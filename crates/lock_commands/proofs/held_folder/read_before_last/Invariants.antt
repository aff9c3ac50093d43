use Rattle.lock_commands.specs.HoldSteps.{so_far, HoldLeads}
use Rattle.lock_commands.proofs.held_folder.read_before_last.Given as goal

abbrev pub invariant-loop-number : goal.invariant-loop-number
invariant-loop-number g l = HoldLeads (g.D.Disk.holds l.disk) l.folder l.fn.numbers.first l.number (so_far l.found)
