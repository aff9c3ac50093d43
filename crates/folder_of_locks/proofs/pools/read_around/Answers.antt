use Rattle.std.proofs.Common.{◌≡◌, ℕ, List, length, map, inr, rules, subst, arith}
use Rattle.ring_state.specs.Sizes.{Size}
use Rattle.folder_of_locks.specs.declared.locks.ListedLock.{ListedLock}
use Rattle.folder_of_locks.specs.declared.locks.ListError.TheVariants as refused
use Rattle.folder_of_locks.specs.Lists.{listed, IsLocksFault}
use Rattle.folder_of_locks.specs.Pools.{pool_ring}
use Rattle.folder_of_locks.specs.PoolSteps.{IsNotAround}
use Rattle.folder_of_locks.proofs.Checked.{size_fault}
use Rattle.folder_of_locks.proofs.Stars.{locks_fault, pool_fault}
use Rattle.folder_of_locks.proofs.pools.read_around.Goals as goal

pub returns-in_default-clause-err : goal.returns-in_default-clause-err
returns-in_default-clause-err c = inr (λ s p. c.in_default.ensures s.n s.k p.machines p.values p.sized)

pub returns-in-Err-check_fixed-clause-err : goal.returns-in-Err-check_fixed-clause-err
returns-in-Err-check_fixed-clause-err c =
    let s : Size = record { n = c.in-Some.n; k = c.in-Some.k } in
    locks_fault c.args.end c.args.mark c.args.front.now c.args.size.now (map listed c.in-Ok.locks.items) s c.in-Err-check_fixed.error c.in-Ok.ensures.ok (record { machines = search rules; values = search rules; sized = c.in-Some.ensures })
    (subst (λ (x : List ListedLock). IsLocksFault (map listed x) c.in-Err-check_fixed.error) c.deref.ensures.value c.in-Err-check_fixed.ensures.err)

pub returns-clause-err : goal.returns-clause-err
returns-clause-err c =
    let s : Size = record { n = c.in-Some.n; k = c.in-Some.k } in
    let e = c.in-Err-new.ensures in
    let n = c.len.ensures in
    let k = c.in-Ok.locks.ok.0 in
    let many : length c.in-Ok.locks.items ≡ c.len.result = omega (arith, n, k) in
    subst (λ (n : ℕ). IsNotAround c.args.end c.args.mark c.args.front.now c.args.size.now (refused.Size n c.in-Err-new.cause)) many
    (pool_fault c.args.end c.args.mark c.args.front.now c.args.size.now c.in-Ok.locks.items s c.in-Err-new.cause c.in-Ok.ensures.ok (record { machines = search rules; values = search rules; sized = c.in-Some.ensures })
    (size_fault (pool_ring s) c.in-Err-new.cause e.too_few e.too_many e.few_values e.many_values))
