use Rattle.std.proofs.Common.{inr, sym, subst}
use Rattle.saved_history.specs.Content.{Content}
use Rattle.motion_commands.specs.Moved.{IsMotionOf, IsMotionRefusal}
use Rattle.motion_commands.proofs.drawings.moving_of.Goals as goal

pub returns-in-Ok-picture_of-clause-ok : goal.returns-in-Ok-picture_of-clause-ok
returns-in-Ok-picture_of-clause-ok c =
    let legal = c.in-Ok.ensures.ok in
    (legal.0, subst (λ (x : Content). IsMotionOf c.args.words.now x.rings c.in-Ok-picture_of.text.items) (sym legal.1) c.in-Ok-picture_of.ensures.ok)

pub returns-clause-err : goal.returns-clause-err
returns-clause-err c =
    let legal = c.in-Ok.ensures.ok in
    inr (_, legal.0, subst (λ (x : Content). IsMotionRefusal c.args.words.now x.rings c.in-Err-picture_of.refusal) (sym legal.1) c.in-Err-picture_of.ensures.err)
