use Rattle.std.proofs.Common.{refl}
use Rattle.saved_history.proofs.Passing.{below_more, below_fault, below_all}
use Rattle.one_thread_ring.proofs.SavedParts.{surveys_spelled}
use Rattle.one_thread_ring.proofs.surveys.put_entries.Goals as goal

pub returns-in-Err-clause-written : goal.returns-in-Err-clause-written
returns-in-Err-clause-written g c = below_fault (surveys_spelled c.args.seat) c.loop-entry.invariant _ _ _ refl c.in-Err.fault c.loop-entry-test.true c.in-Err.ensures.written

pub loop-entry-preserved : goal.loop-entry-preserved
loop-entry-preserved g c = below_more (surveys_spelled c.args.seat) c.loop-entry.invariant _ _ _ refl c.loop-entry-test.true c.in-Ok.ensures.written c.in-Ok.ensures.fits

pub returns : goal.returns
returns g c = let p = below_all (surveys_spelled c.args.seat) c.loop-entry.invariant c.loop-entry-test.false in record { written = p.0; fits = p.1 }
