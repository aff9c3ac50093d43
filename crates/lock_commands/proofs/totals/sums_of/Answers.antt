use Rattle.std.proofs.Common.{◌<◌, length, rules, refl}
use Rattle.lock_commands.proofs.Summing.{sums_more, large_with}
use Rattle.lock_commands.proofs.totals.sums_of.Goals as goal

pub loop-lock-preserved : goal.loop-lock-preserved
loop-lock-preserved c =
    let below : c.loop-lock.lock < length c.args.locks.now = search rules in
    sums_more c.args.locks.now c.loop-lock.lock c.ring.result.now c.loop-lock.all c.in_ok-all.all below c.ring.ensures c.loop-lock.invariant c.in_ok-all.ensures.some

pub returns-in_err-all-clause-none : goal.returns-in_err-all-clause-none
returns-in_err-all-clause-none c = λ _.
    let below : c.loop-lock.lock < length c.args.locks.now = search rules in
    large_with c.args.locks.now c.loop-lock.lock c.ring.result.now c.loop-lock.all below c.ring.ensures c.loop-lock.invariant (c.in_err-all.ensures.none refl)
