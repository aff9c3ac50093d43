use Rattle.saved_history.proofs.Passing.{below_more, below_fault, below_all}
use Rattle.saved_history.proofs.ValueParts.{rings_spelled}
use Rattle.saved_history.proofs.write.put_blocks.Goals as goal

pub returns-in-Err-clause-written : goal.returns-in-Err-clause-written
returns-in-Err-clause-written g c = below_fault rings_spelled c.loop-ring.invariant _ c.ring-item.result _ c.ring-item.is c.in-Err.fault c.loop-ring-test.true c.in-Err.ensures.written

pub loop-ring-preserved : goal.loop-ring-preserved
loop-ring-preserved g c = below_more rings_spelled c.loop-ring.invariant _ c.ring-item.result _ c.ring-item.is c.loop-ring-test.true c.in-Ok.ensures.written c.in-Ok.ensures.fits

pub returns : goal.returns
returns g c = let p = below_all rings_spelled c.loop-ring.invariant c.loop-ring-test.false in record { written = p.0; fits = p.1 }
