use Rattle.journal.specs.Spelling.{journal_line}
use Rattle.one_thread_ring.specs.Journals.{line_of_survey}
use Rattle.endless_ring.specs.declared.files.Looked.{Looked}
use Rattle.endless_ring.proofs.Filled.{FilledItems}
use Rattle.endless_ring.proofs.texts.put_looked.Given as goal

abbrev pub invariant-loop-one : goal.invariant-loop-one
invariant-loop-one l = FilledItems (λ (x : Looked). journal_line (line_of_survey 0 x.seat x.survey)) l.initial.out l.out l.place l.behind l.looked l.one-index
