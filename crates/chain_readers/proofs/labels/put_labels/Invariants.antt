use Rattle.std.specs.List.{flat_map}
use Rattle.text_lines.specs.Writing.{Wrote}
use Rattle.chain_readers.specs.Labels.{label_line}
use Rattle.chain_readers.proofs.labels.put_labels.Given as goal

-- the lines of the labels that are left are still to be written
abbrev pub invariant-loop-label : goal.invariant-loop-label
invariant-loop-label g l = Wrote (g.W.Write.contents l.initial.out) (g.W.Write.contents l.out) (flat_map label_line l.counts.entries) (flat_map label_line l.label-iterator)
