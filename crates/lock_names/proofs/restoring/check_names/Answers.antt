use Rattle.std.proofs.Common.{◌<◌, ◌≤◌, length, arith}
use Rattle.held_locks.specs.Kept.{lock_of}
use Rattle.name_bindings.proofs.Found.{there_is}
use Rattle.lock_names.proofs.Asking.{view_lock}
use Rattle.lock_names.proofs.Restores.{one_more_right, all_right}
use Rattle.lock_names.proofs.restoring.check_names.Goals as goal

pub check_name-requires-clause-lock : goal.check_name-requires-clause-lock
check_name-requires-clause-lock c = let t = c.loop-ring-test.true in let n = c.count-ring-end.ensures in omega arith

pub check_name-requires-clause-fixed : goal.check_name-requires-clause-fixed
check_name-requires-clause-fixed c = c.requires.fixed c.loop-ring.ring

pub returns-in-Err-clause-why : goal.returns-in-Err-clause-why
returns-in-Err-clause-why c =
    let below : c.loop-ring.ring < length c.args.locks.now = let t = c.loop-ring-test.true in let n = c.count-ring-end.ensures in omega arith in
    let v = there_is c.args.locks.now c.loop-ring.ring below in
    let many = c.requires.many in
    let o = there_is c.args.table.now c.loop-ring.ring (omega arith) in
    record {
      ring = c.loop-ring.ring;
      lock = lock_of v.0;
      name = o.0;
      there = view_lock c.args.locks.now c.loop-ring.ring v.0 v.1;
      named = o.1;
      wrong = c.in-Err.ensures.why v.0 o.0 v.1 o.1;
    }

pub loop-ring-preserved : goal.loop-ring-preserved
loop-ring-preserved c = one_more_right c.args.fixed c.args.top c.args.locks.now c.args.table.now c.loop-ring.ring c.loop-ring.invariant c.in-Ok.ensures.ok

pub returns-clause-ok : goal.returns-clause-ok
returns-clause-ok c =
    let le : length c.args.locks.now ≤ c.loop-ring.ring = let past = c.loop-ring-test.false in let n = c.count-ring-end.ensures in omega arith in
    all_right c.args.fixed c.args.top c.args.locks.now c.args.table.now c.loop-ring.ring le c.loop-ring.invariant
