use Rattle.std.proofs.Common.{refl}
use Rattle.folder_of_locks.proofs.Checked.{fault_at, one_more, all_sized}
use Rattle.folder_of_locks.proofs.checks.check_sizes.Goals as goal

pub returns-in-Err-clause-err : goal.returns-in-Err-clause-err
returns-in-Err-clause-err c =
    let e = c.in-Err.ensures in
    fault_at c.args.locks.now c.loop-place.place _ c.loop-place-test.true c.in-Err.cause e.too_few e.too_many e.few_values e.many_values

pub loop-place-preserved : goal.loop-place-preserved
loop-place-preserved c = one_more c.args.locks.now c.loop-place.place _ c.loop-place-test.true c.loop-place.invariant (c.in-Ok.ensures.exact.0 refl)

pub returns-clause-ok : goal.returns-clause-ok
returns-clause-ok c = all_sized c.args.locks.now c.loop-place.place c.loop-place-test.false c.loop-place.invariant
