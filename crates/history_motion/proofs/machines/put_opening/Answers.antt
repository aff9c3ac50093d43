use Rattle.std.proofs.Common.{◌≡◌, ◌∙◌, ap}
use Rattle.std.specs.Prelude.{decimal}
use Rattle.history_motion.specs.Motion.{angle}
use Rattle.history_motion.proofs.machines.put_opening.Goals as goal

pub returns : goal.returns
returns g c =
    let place : c.as_bytes.result.now ≡ decimal (angle c.args.n c.args.machine) = c.as_bytes.ensures.value ∙ c.format.ensures.text ∙ ap decimal c.angle.ensures in
    rw (← place) c.put_all.ensures
