use Rattle.std.proofs.Common.{arith, subst}
use Rattle.folder_commands.specs.JoinSteps.{JoinLeads}
use Rattle.folder_commands.proofs.JoinedLeads.{none_joined, joined_on, unjoined_at}
use Rattle.folder_commands.proofs.join.join_before_last.Goals as goal

pub loop-number-init : goal.loop-number-init
loop-number-init g c = none_joined _ _ _ _ c.new-found.ensures

pub loop-number-preserved : goal.loop-number-preserved
loop-number-preserved g c =
    let a = c.in-Ok.ensures.ok in
    joined_on _ _ _ _ _ _ a.0 c.loop-number.invariant a.1 a.2

pub returns-in-Err-clause-err : goal.returns-in-Err-clause-err
returns-in-Err-clause-err g c = unjoined_at _ _ c.args.numbers _ _ c.in-Err.fault c.loop-number.invariant (omega arith) c.in-Err.ensures.err

pub returns-clause-ok : goal.returns-clause-ok
returns-clause-ok g c = let end = c.requires.up in subst (λ n. JoinLeads (g.D.Disk.holds c.args.disk.now) c.args.folder.now c.args.numbers.first n c.loop-number.found) (omega arith) c.loop-number.invariant
