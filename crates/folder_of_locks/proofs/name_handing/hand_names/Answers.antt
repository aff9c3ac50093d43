use Rattle.std.proofs.Common.{refl, rules}
use Rattle.folder_of_locks.proofs.NameHanded.{handed_next, not_handed}
use Rattle.folder_of_locks.proofs.name_handing.hand_names.Goals as goal

pub loop-place-preserved : goal.loop-place-preserved
loop-place-preserved c = handed_next _ _ _ c.args.holders.now c.loop-place.place c.index-holders-place.result c.loop-place-test.true (search rules) c.loop-place.invariant (c.if-not-hand.ensures.yes refl)

pub returns-then-not-hand-clause-err : goal.returns-then-not-hand-clause-err
returns-then-not-hand-clause-err c = not_handed _ _ c.args.holders.now c.loop-place.place c.index-holders-place.result c.loop-place-test.true (search rules) c.loop-place.invariant (c.if-not-hand.ensures.no refl)
