use Rattle.saved_history.proofs.Passing.{WroteBelow}
use Rattle.segment_files.proofs.BaseParts.{bases_text, BasesFit}
use Rattle.segment_files.proofs.write.put_bases.Given as goal

abbrev pub invariant-loop-base : goal.invariant-loop-base
invariant-loop-base g l = WroteBelow bases_text BasesFit (g.W.Write.contents l.initial.out) (g.W.Write.contents l.out) l.bases l.base-index
