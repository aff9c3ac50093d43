use Rattle.std.proofs.Common.{◌∷◌, [], drop}
use Rattle.text_lines.specs.Spelling.{numbers_text}
use Rattle.endless_ring.proofs.Filled.{FilledUpTo}
use Rattle.endless_ring.proofs.fills.put_start.Given as goal

abbrev pub invariant-loop-i : goal.invariant-loop-i
invariant-loop-i l = FilledUpTo l.initial.out l.out l.initial.behind l.behind (numbers_text (32 ∷ []) (10 ∷ []) l.start.values) (numbers_text (32 ∷ []) (10 ∷ []) (drop l.i l.start.values))
