use Rattle.std.proofs.Common.{arith, subst}
use Rattle.lock_commands.specs.HoldSteps.{so_far, HoldLeads}
use Rattle.lock_commands.proofs.HeldLeads.{none_held, held_on, unheld_at}
use Rattle.lock_commands.proofs.held_folder.read_before_last.Goals as goal

pub loop-number-init : goal.loop-number-init
loop-number-init g c = none_held _ _ _ _ c.nothing_read-found.ensures

pub loop-number-preserved : goal.loop-number-preserved
loop-number-preserved g c =
    let a = c.in-Ok.ensures.ok in
    held_on _ _ _ _ _ _ a.0 c.loop-number.invariant a.1 a.2

pub returns-in-Err-clause-err : goal.returns-in-Err-clause-err
returns-in-Err-clause-err g c = unheld_at _ _ c.args.numbers _ _ c.in-Err.fault c.loop-number.invariant (omega arith) c.in-Err.ensures.err

pub returns-clause-ok : goal.returns-clause-ok
returns-clause-ok g c = let end = c.requires.up in subst (λ n. HoldLeads (g.D.Disk.holds c.args.disk.now) c.args.folder.now c.args.numbers.first n (so_far c.loop-number.found)) (omega arith) c.loop-number.invariant
