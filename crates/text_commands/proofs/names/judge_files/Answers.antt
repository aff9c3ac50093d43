use Rattle.std.proofs.Common.{refl}
use Rattle.text_commands.proofs.JudgedFiles.{all_judged, unjudged_last}
use Rattle.text_commands.proofs.names.judge_files.Goals as goal

pub returns-in-Ok-judge_segment-clause-ok : goal.returns-in-Ok-judge_segment-clause-ok
returns-in-Ok-judge_segment-clause-ok g c =
    let a = c.in-Ok-judge_segment.ensures.ok in
    all_judged _ _ _ c.args.numbers _ a.0 _ c.in-Ok.ensures.ok a.1 a.2 (c.in-Ok-judge_segment.ensures.end refl)

pub returns-in-Err-judge_segment-clause-err : goal.returns-in-Err-judge_segment-clause-err
returns-in-Err-judge_segment-clause-err g c = unjudged_last _ _ _ c.args.numbers _ c.in-Err-judge_segment.fault c.in-Ok.ensures.ok c.in-Err-judge_segment.ensures.err
