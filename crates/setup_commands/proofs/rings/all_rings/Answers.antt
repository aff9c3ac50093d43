use Rattle.std.proofs.Common.{rules}
use Rattle.setup_commands.proofs.Making.{none_made, one_made, all_made, refused}
use Rattle.setup_commands.proofs.rings.all_rings.Goals as goal

pub loop-place-init : goal.loop-place-init
loop-place-init c = (none_made _ _ _ (search rules), search rules)

pub loop-place-preserved : goal.loop-place-preserved
loop-place-preserved c =
    let ok = c.in-Ok.ensures.ok in (
      one_made c.args.seed c.args.sizes.now c.loop-place.place _ c.loop-place.rings.items _ _ c.loop-place-test.true c.loop-place.invariant.0 ok.0 ok.1 c.in-Ok-push.ensures.items,
      search rules,
    )

pub returns-in-Err-clause-err : goal.returns-in-Err-clause-err
returns-in-Err-clause-err c =
    refused c.args.seed c.args.sizes.now c.loop-place.place _ _ c.in-Err.fault c.loop-place-test.true c.loop-place.invariant.0 c.in-Err.ensures.err

pub returns-clause-ok : goal.returns-clause-ok
returns-clause-ok c = all_made c.args.seed c.args.sizes.now c.loop-place.place _ c.loop-place-test.false c.loop-place.invariant.0
