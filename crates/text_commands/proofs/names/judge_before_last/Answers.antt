use Rattle.std.proofs.Common.{map, subst, arith}
use Rattle.std.specs.Prelude.{string_bytes}
use Rattle.text_commands.specs.Judged.{JudgeLeads}
use Rattle.text_commands.proofs.JudgedFiles.{none_judged, one_judged, unjudged_at}
use Rattle.text_commands.proofs.names.judge_before_last.Goals as goal

pub loop-number-init : goal.loop-number-init
loop-number-init g c = none_judged _ _ _ _ _ c.new-judged.ensures

pub loop-number-preserved : goal.loop-number-preserved
loop-number-preserved g c =
    let a = c.in-Ok.ensures.ok in
    one_judged _ _ _ _ _ _ a.0 _ c.loop-number.invariant a.1 a.2

pub returns-in-Err-clause-err : goal.returns-in-Err-clause-err
returns-in-Err-clause-err g c = unjudged_at _ _ _ c.args.numbers _ _ c.in-Err.fault (omega arith) c.loop-number.invariant c.in-Err.ensures.err

pub returns-clause-ok : goal.returns-clause-ok
returns-clause-ok g c = let end = c.requires.up in subst (λ n. JudgeLeads (g.D.Disk.holds c.args.disk.now) c.args.folder.now (map string_bytes c.args.fixed.now) c.args.numbers.first n c.loop-number.judged) (omega arith) c.loop-number.invariant
