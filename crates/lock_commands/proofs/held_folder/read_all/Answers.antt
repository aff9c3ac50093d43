use Rattle.lock_commands.proofs.HeldLeads.{held_end, unheld_last}
use Rattle.lock_commands.proofs.held_folder.read_all.Goals as goal

pub returns-in-Ok-read_segment-clause-ok : goal.returns-in-Ok-read_segment-clause-ok
returns-in-Ok-read_segment-clause-ok g c =
    let a = c.in-Ok-read_segment.ensures.ok in
    held_end _ _ _ _ _ _ a.0 c.in-Ok.ensures.ok a.1 a.2

pub returns-in-Err-read_segment-clause-err : goal.returns-in-Err-read_segment-clause-err
returns-in-Err-read_segment-clause-err g c = unheld_last _ _ c.args.numbers _ c.in-Err-read_segment.fault c.in-Ok.ensures.ok c.in-Err-read_segment.ensures.err
