use Rattle.std.proofs.Common.{map}
use Rattle.std.specs.Prelude.{string_bytes}
use Rattle.text_commands.specs.Judged.{JudgeLeads}
use Rattle.text_commands.proofs.names.judge_before_last.Given as goal

abbrev pub invariant-loop-number : goal.invariant-loop-number
invariant-loop-number g l = JudgeLeads (g.D.Disk.holds l.disk) l.folder (map string_bytes l.fixed) l.fn.numbers.first l.number l.judged
