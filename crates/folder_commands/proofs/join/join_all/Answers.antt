use Rattle.folder_commands.proofs.JoinedLeads.{joined_end, unjoined_last}
use Rattle.folder_commands.proofs.join.join_all.Goals as goal

pub returns-in-Ok-join_segment-clause-ok : goal.returns-in-Ok-join_segment-clause-ok
returns-in-Ok-join_segment-clause-ok g c =
    let a = c.in-Ok-join_segment.ensures.ok in
    joined_end _ _ _ _ _ _ a.0 c.in-Ok.ensures.ok a.1 a.2

pub returns-in-Err-join_segment-clause-err : goal.returns-in-Err-join_segment-clause-err
returns-in-Err-join_segment-clause-err g c = unjoined_last _ _ c.args.numbers _ c.in-Err-join_segment.fault c.in-Ok.ensures.ok c.in-Err-join_segment.ensures.err
