use Rattle.std.proofs.Common.{drop}
use Rattle.text_lines.specs.Writing.{Wrote}
use Rattle.repair_texts.specs.Lines.{counts_from}
use Rattle.repair_texts.proofs.lines.put_counts.Given as goal

-- the lines of the numbers from this one on are still to be written
abbrev pub invariant-loop-number : goal.invariant-loop-number
invariant-loop-number g l = Wrote (g.W.Write.contents l.initial.out) (g.W.Write.contents l.out) (counts_from l.unit l.head.n l.head.k 0 l.counts) (counts_from l.unit l.head.n l.head.k l.number (drop l.number l.counts))
