use Rattle.std.proofs.Common.{◌+◌, drop, arith}
use Rattle.held_locks.proofs.AllLeft.{there_is}
use Rattle.lock_journal.specs.State.{wait_line, wait_lines}
use Rattle.lock_journal.proofs.StateLines.{line_more, wait_there}
use Rattle.lock_journal.proofs.stating.put_line.Goals as goal

pub waiter-requires : goal.waiter-requires
waiter-requires c =
    let v = there_is c.args.locks.now c.args.lock c.requires in
    let waiting = c.waiters-waiting.ensures v.0 v.1 in
    let place = c.loop-place-test.true in
    (v.0, v.1, omega (arith, waiting, place))

pub loop-place-preserved : goal.loop-place-preserved
loop-place-preserved c v at =
    line_more c.loop-place.text.items c.put_waiter.new.text.items _ (wait_line c.args.name.now c.waiter.result) (wait_lines c.args.name.now (drop (c.loop-place.place + 1) v.queue)) _
    (wait_there c.args.name.now v.queue c.loop-place.place c.waiter.result (c.waiter.ensures v at)) (c.loop-place.invariant v at) c.in-Ok.ensures
