use Rattle.std.proofs.Common.{refl, ap, sym, ◌∙◌, List, ℕ, ◌++◌, ◌∷◌, [], arith}
use Rattle.std.proofs.lemmas.Fmt.{decimal_digit}
use Rattle.text_lines.specs.Spelling.{spaced}
use Rattle.saved_history.specs.Spelling.{survey_line}
use Rattle.journal.specs.Spelling.{journal_line}
use Rattle.one_thread_ring.specs.Journals.{line_of_survey}
use Rattle.endless_ring.specs.declared.files.Looked.{Looked}
use Rattle.endless_ring.proofs.Filled.{flat_spelled, below_more, below_all, fills_same, fills_then}
use Rattle.endless_ring.proofs.texts.put_looked.Goals as goal

pub loop-one-preserved : goal.loop-one-preserved
loop-one-preserved c =
    let line = fills_same _ _ (c.as_bytes.ensures ∙ (c.survey_line.ensures ∙ ap survey_line c.saved_survey.ensures.is)) c.put-behind.ensures in
    below_more (flat_spelled (λ (x : Looked). journal_line (line_of_survey 0 x.seat x.survey))) c.loop-one.invariant _ _ _ _ refl c.loop-one-test.true (fills_then (spaced 0) _ (fills_same _ (spaced 0) (sym (ap (λ (t : List ℕ). t ++ 32 ∷ []) (decimal_digit 0 (omega arith)))) c.put-begun.ensures) line) tt

pub returns : goal.returns
returns c = (below_all (flat_spelled (λ (x : Looked). journal_line (line_of_survey 0 x.seat x.survey))) c.loop-one.invariant c.loop-one-test.false).0
