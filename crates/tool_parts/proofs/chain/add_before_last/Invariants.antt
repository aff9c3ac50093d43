use Rattle.tool_parts.specs.ChainSteps.{Leads}
use Rattle.tool_parts.proofs.chain.add_before_last.Given as goal

abbrev pub invariant-loop-number : goal.invariant-loop-number
invariant-loop-number g l = Leads (g.D.Disk.holds l.disk) l.folder l.fn.numbers.first l.number l.chain
