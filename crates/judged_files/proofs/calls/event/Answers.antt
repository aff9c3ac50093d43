use Rattle.saved_history.specs.Versions.{latest_version}
use Rattle.saved_history.proofs.LineLaws.{item_reads}
use Rattle.journal.proofs.Fronts.{first_found, second_found, none_found}
use Rattle.judged_files.proofs.calls.event.Goals as goal

pub returns-in-Ok-Event-default : goal.returns-in-Ok-Event-default
returns-in-Ok-Event-default c = first_found (item_reads latest_version) c.args.bytes.now c.in-Ok-Event-default.event c.in-Ok-Event-default.rest.now (rw c.in-Ok-Event-default.field-0-0-is at c.in-Ok-Event-default.ensures)

pub returns-in-Ok-End-default : goal.returns-in-Ok-End-default
returns-in-Ok-End-default c = second_found (item_reads latest_version) c.args.bytes.now c.in-Ok-End-default.field-0-0-0 c.in-Ok-End-default.field-0-1.now (rw c.in-Ok-End-default.field-0-0-is at c.in-Ok-End-default.ensures)

pub returns-in-Err-Fault : goal.returns-in-Err-Fault
returns-in-Err-Fault c = none_found (item_reads latest_version) c.args.bytes.now c.in-Err-Fault.field-0-0 (rw c.in-Err-Fault.field-0-is at c.in-Err-Fault.ensures)
