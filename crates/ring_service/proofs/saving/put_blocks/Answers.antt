use Rattle.saved_history.proofs.Passing.{below_more, below_fault, below_all}
use Rattle.ring_service.proofs.Spelled.{rings_spelled}
use Rattle.ring_service.proofs.saving.put_blocks.Goals as goal

pub returns-in-Err-clause-written : goal.returns-in-Err-clause-written
returns-in-Err-clause-written g c = below_fault rings_spelled c.loop-place.invariant _ c.index-rings-place.result _ c.index-rings-place.is c.in-Err.fault c.loop-place-test.true c.in-Err.ensures.written

pub loop-place-preserved : goal.loop-place-preserved
loop-place-preserved g c = below_more rings_spelled c.loop-place.invariant _ c.index-rings-place.result _ c.index-rings-place.is c.loop-place-test.true c.in-Ok.ensures.written c.in-Ok.ensures.fits

pub returns : goal.returns
returns g c = let p = below_all rings_spelled c.loop-place.invariant c.loop-place-test.false in record { written = p.0; fits = p.1 }
