use Rattle.std.proofs.Common.{refl, ap, ◌∙◌}
use Rattle.saved_history.specs.Spelling.{survey_line}
use Rattle.one_thread_ring.proofs.Saved.{surveys_spelled}
use Rattle.endless_ring.proofs.Filled.{below_more, below_all, fills_same}
use Rattle.endless_ring.proofs.fills.put_surveys.Goals as goal

pub loop-survey-preserved : goal.loop-survey-preserved
loop-survey-preserved c =
    let line = fills_same _ _ (c.as_bytes.ensures ∙ (c.survey_line.ensures ∙ ap survey_line c.saved_survey.ensures.is)) c.put-behind.ensures in
    below_more (surveys_spelled c.args.seat) c.loop-survey.invariant _ _ _ _ refl c.loop-survey-test.true line (rw c.saved_survey.ensures.is at c.saved_survey.ensures.fits)

pub returns : goal.returns
returns c = let p = below_all (surveys_spelled c.args.seat) c.loop-survey.invariant c.loop-survey-test.false in record { written = p.0; fits = p.1 }
