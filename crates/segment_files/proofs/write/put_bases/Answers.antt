use Rattle.std.proofs.Common.{refl}
use Rattle.saved_history.proofs.Passing.{below_more, below_fault, below_all}
use Rattle.segment_files.proofs.BaseParts.{bases_spelled}
use Rattle.segment_files.proofs.write.put_bases.Goals as goal

pub returns-in-Err-clause-written : goal.returns-in-Err-clause-written
returns-in-Err-clause-written g c = below_fault bases_spelled c.loop-base.invariant _ _ _ refl c.in-Err.fault c.loop-base-test.true c.in-Err.ensures.written

pub loop-base-preserved : goal.loop-base-preserved
loop-base-preserved g c = below_more bases_spelled c.loop-base.invariant _ _ _ refl c.loop-base-test.true c.in-Ok.ensures.written c.in-Ok.ensures.fits

pub returns : goal.returns
returns g c = let p = below_all bases_spelled c.loop-base.invariant c.loop-base-test.false in record { written = p.0; fits = p.1 }
