use Rattle.lock_commands.specs.ToldHolds.{called}
use Rattle.lock_commands.proofs.ToldLines.{ring_written, ring_fault}
use Rattle.lock_commands.proofs.hold_lines.put_holds.Goals as goal

pub returns-in-Err : goal.returns-in-Err
returns-in-Err g c =
    ring_fault c.args.choice (called c.args.names.now) c.args.locks.now c.loop-ring.ring c.index-locks-ring.result c.deref.result.now c.loop-ring-test.true c.index-locks-ring.is c.deref.ensures.value _ _ _ c.in-Err.fault c.loop-ring.invariant c.in-Err.ensures

pub loop-ring-preserved : goal.loop-ring-preserved
loop-ring-preserved g c =
    ring_written c.args.choice (called c.args.names.now) c.args.locks.now c.loop-ring.ring c.index-locks-ring.result c.deref.result.now c.loop-ring-test.true c.index-locks-ring.is c.deref.ensures.value _ _ _ c.loop-ring.invariant c.in-Ok.ensures
