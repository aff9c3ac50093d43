use Rattle.std.proofs.Common.{rules, All, subst, arith, List, refl}
use Rattle.std.proofs.lemmas.List.{take_all}
use Rattle.std.proofs.lemmas.List.Elements.{All-more}
use Rattle.ring_logs.specs.Walks.{Walked, IsPlacedWalk}
use Rattle.ring_logs.proofs.placing.all_end.Goals as goal

pub loop-walk-preserved : goal.loop-walk-preserved
loop-walk-preserved c =
    All-more IsPlacedWalk c.args.walks.now c.loop-walk.walk-index c.walk-item.result c.loop-walk-test.true c.loop-walk.invariant (search rules)

pub returns : goal.returns
returns c =
    let past = c.loop-walk-test.false in (
      λ t. subst (λ (ws : List Walked). All IsPlacedWalk ws) (take_all c.loop-walk.walk-index c.args.walks.now (omega arith)) c.loop-walk.invariant,
      λ h. refl,
    )
