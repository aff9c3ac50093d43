use Rattle.saved_history.specs.Lines.{next_of}
use Rattle.saved_history.proofs.LineLaws.{survey_or_next_reads}
use Rattle.journal.proofs.Fronts.{first_found, second_found, none_found}
use Rattle.judged_files.proofs.calls.survey.Goals as goal

pub returns-in-Ok-Survey-default : goal.returns-in-Ok-Survey-default
returns-in-Ok-Survey-default c = first_found survey_or_next_reads c.args.bytes.now c.in-Ok-Survey-default.survey c.in-Ok-Survey-default.rest.now (rw c.in-Ok-Survey-default.field-0-0-is at c.in-Ok-Survey-default.ensures)

pub returns-in-Ok-Next-default : goal.returns-in-Ok-Next-default
returns-in-Ok-Next-default c = second_found survey_or_next_reads c.args.bytes.now (next_of c.in-Ok-Next-default.field-0-0-0) c.in-Ok-Next-default.field-0-1.now (rw c.in-Ok-Next-default.field-0-0-is at c.in-Ok-Next-default.ensures)

pub returns-in-Err-Fault : goal.returns-in-Err-Fault
returns-in-Err-Fault c = none_found survey_or_next_reads c.args.bytes.now c.in-Err-Fault.field-0-0 (rw c.in-Err-Fault.field-0-is at c.in-Err-Fault.ensures)
