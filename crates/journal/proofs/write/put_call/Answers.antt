use Rattle.saved_history.specs.Versions.{latest_version}
use Rattle.journal.proofs.Lengths.{event_short, survey_short}
use Rattle.journal.proofs.write.put_call.Goals as goal

pub returns-in-Event-clause-short : goal.returns-in-Event-clause-short
returns-in-Event-clause-short c = rw c.put_event.ensures (event_short latest_version c.in-Event.event c.fits.ensures)

pub returns-in-Survey-clause-short : goal.returns-in-Survey-clause-short
returns-in-Survey-clause-short c = rw c.put_survey.ensures (survey_short c.in-Survey.survey c.survey_fits.ensures)
