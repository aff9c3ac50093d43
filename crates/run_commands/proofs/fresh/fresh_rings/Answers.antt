use Rattle.std.proofs.Common.{rules}
use Rattle.std.proofs.lemmas.Result.{err_from_is_err_and}
use Rattle.run_commands.proofs.FreshRings.{none_made, one_made, all_made, refused}
use Rattle.run_commands.proofs.fresh.fresh_rings.Goals as goal

pub loop-place-init : goal.loop-place-init
loop-place-init c = none_made _ _ (search rules)

pub returns-in_err-ring-clause-err : goal.returns-in_err-ring-clause-err
returns-in_err-ring-clause-err c =
    let p = err_from_is_err_and c.from_residual.result c.from_residual.ensures.1 in
    rw (p.1, p.2) (refused c.args.sizes.now c.loop-place.place _ _ _ c.loop-place-test.true c.loop-place.invariant c.in_err-ring.ensures.err)

pub loop-place-preserved : goal.loop-place-preserved
loop-place-preserved c =
    let ok = c.in_ok-ring.ensures.ok in
    one_made c.args.sizes.now c.loop-place.place _ c.loop-place.rings.items _ _ c.loop-place-test.true c.loop-place.invariant ok.0 ok.1 c.in-Ok.ensures.items

pub returns-clause-ok : goal.returns-clause-ok
returns-clause-ok c = all_made c.args.sizes.now c.loop-place.place _ c.loop-place-test.false c.loop-place.invariant
