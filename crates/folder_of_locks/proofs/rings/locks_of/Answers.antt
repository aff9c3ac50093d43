use Rattle.std.proofs.Common.{inl, inr, map, arith}
use Rattle.folder_of_locks.specs.Lists.{listed}
use Rattle.folder_of_locks.proofs.Begun.{got, begun_more, not_added}
use Rattle.folder_of_locks.proofs.rings.locks_of.Goals as goal

pub returns-in-Err-clause-err : goal.returns-in-Err-clause-err
returns-in-Err-clause-err c = inr (c.loop-place.place, _, got c.args.list.now c.loop-place.place _ c.loop-place-test.true, inl c.in-Err.ensures.err)

pub returns-in-Err-add_ring-clause-err : goal.returns-in-Err-add_ring-clause-err
returns-in-Err-add_ring-clause-err c =
    not_added c.args.bases.now c.args.rings.now (map listed c.args.list.now) _ c.loop-place.place _ _ c.in-Err-add_ring.fault c.loop-place.invariant.0 (got c.args.list.now c.loop-place.place _ c.loop-place-test.true) c.in-Ok.ensures.ok c.in-Ok.ensures.kept c.in-Err-add_ring.ensures.err

pub loop-place-preserved : goal.loop-place-preserved
loop-place-preserved c =
    let inv = c.loop-place.invariant in
    let b = begun_more c.args.bases.now c.args.rings.now (map listed c.args.list.now) _ _ c.loop-place.place _ _ inv.0 inv.2 (got c.args.list.now c.loop-place.place _ c.loop-place-test.true) c.in-Ok.ensures.ok c.in-Ok.ensures.kept c.in-Ok-add_ring.ensures.ok in
    (b.0, omega (arith, c.loop-place-test.true), b.1)
