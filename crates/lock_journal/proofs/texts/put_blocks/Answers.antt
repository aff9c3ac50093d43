use Rattle.std.proofs.Common.{◌<◌, length, rules, arith}
use Rattle.saved_history.proofs.Passing.{below_more, below_fault, below_all}
use Rattle.ring_service.proofs.Spelled.{rings_spelled}
use Rattle.lock_journal.proofs.Places.{ring_at, below_map, past_map}
use Rattle.lock_journal.proofs.texts.put_blocks.Goals as goal

pub returns-in-Err-clause-written : goal.returns-in-Err-clause-written
returns-in-Err-clause-written g c =
    let below : c.loop-lock.lock < length c.args.locks.now = search rules in
    below_fault rings_spelled c.loop-lock.invariant _ c.ring.result.now c.ring.result.now (ring_at c.args.locks.now c.loop-lock.lock c.ring.result.now below c.ring.ensures) c.in-Err.fault (below_map c.args.locks.now c.loop-lock.lock below) c.in-Err.ensures.written

pub loop-lock-preserved : goal.loop-lock-preserved
loop-lock-preserved g c =
    let below : c.loop-lock.lock < length c.args.locks.now = search rules in
    below_more rings_spelled c.loop-lock.invariant _ c.ring.result.now c.ring.result.now (ring_at c.args.locks.now c.loop-lock.lock c.ring.result.now below c.ring.ensures) (below_map c.args.locks.now c.loop-lock.lock below) c.in-Ok.ensures.written c.in-Ok.ensures.fits

pub returns : goal.returns
returns g c =
    let past = c.loop-lock-test.false in
    let end = c.loop-lock.auto.lock-end in
    let count = c.count-count.ensures in
    let p = below_all rings_spelled c.loop-lock.invariant (past_map c.args.locks.now c.loop-lock.lock (omega (arith, past, end, count))) in
    record { written = p.0; fits = p.1 }
