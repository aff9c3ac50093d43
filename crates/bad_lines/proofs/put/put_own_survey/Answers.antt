use Rattle.std.proofs.Common.{codes}
use Rattle.text_lines.proofs.Writing.{writes_then, writes_err}
use Rattle.bad_lines.specs.BadLineTexts.{survey_text}
use Rattle.bad_lines.proofs.put.put_own_survey.Goals as goal

pub returns-in-Ok : goal.returns-in-Ok
returns-in-Ok g c = writes_then _ _ _ _ (codes ", should be ") (survey_text c.args.should) c.in-Ok.ensures c.put_survey.ensures

pub returns-in-Err : goal.returns-in-Err
returns-in-Err g c = writes_err _ _ c.in-Err.fault (codes ", should be ") (survey_text c.args.should) c.in-Err.ensures
