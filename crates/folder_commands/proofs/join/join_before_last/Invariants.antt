use Rattle.folder_commands.specs.JoinSteps.{JoinLeads}
use Rattle.folder_commands.proofs.join.join_before_last.Given as goal

abbrev pub invariant-loop-number : goal.invariant-loop-number
invariant-loop-number g l = JoinLeads (g.D.Disk.holds l.disk) l.folder l.fn.numbers.first l.number l.found
