use Rattle.std.proofs.Common.{◌^◌, arith}
use Rattle.text_lines.proofs.Decimals.{number_reads}
use Rattle.saved_history.specs.Versions.{latest_version}
use Rattle.journal.proofs.Fronts.{no_number, no_call_after, ring_then_call}
use Rattle.judged_files.proofs.calls.recorded.Goals as goal

pub returns-in-Ok-Some : goal.returns-in-Ok-Some
returns-in-Ok-Some c =
    let f = rw c.in-Ok-Some.field-0-is at c.in-Ok-Some.ensures in
    let small = ((number_reads (2 ^ 32) 32 (omega arith) (omega arith) (omega arith)).takes c.args.bytes.now c.in-Ok.ring c.in-Ok.after.now c.in-Ok.ensures).0 in
    ring_then_call latest_version (2 ^ 32) c.args.bytes.now c.in-Ok.ring c.in-Ok.after.now c.in-Ok-Some.call c.in-Ok-Some.rest.now c.in-Ok.ensures small f.0 f.1

pub returns-in-Ok-None : goal.returns-in-Ok-None
returns-in-Ok-None c = no_call_after latest_version (2 ^ 32) c.args.bytes.now c.in-Ok.ring c.in-Ok.after.now c.in-Ok.ensures (rw c.in-Ok-None.field-0-is at c.in-Ok-None.ensures)

pub returns-in-Err-Fault : goal.returns-in-Err-Fault
returns-in-Err-Fault c = no_number latest_version (2 ^ 32) c.args.bytes.now c.in-Err-Fault.field-0-0 (rw c.in-Err-Fault.field-0-is at c.in-Err-Fault.ensures)
