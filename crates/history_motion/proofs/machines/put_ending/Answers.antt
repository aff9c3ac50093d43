use Rattle.std.proofs.Common.{◌≡◌, ◌∙◌, ap}
use Rattle.std.specs.Prelude.{decimal}
use Rattle.history_motion.specs.Motion.{angle}
use Rattle.history_motion.proofs.machines.put_ending.Goals as goal

pub returns : goal.returns
returns g c =
    let place : c.as_bytes-angle.result.now ≡ decimal (angle c.args.n c.args.machine) = c.as_bytes-angle.ensures.value ∙ c.format.ensures.text ∙ ap decimal c.angle.ensures in
    let number : c.as_bytes-number.result.now ≡ decimal c.args.machine = c.as_bytes-number.ensures.value ∙ c.format-2.ensures.text in
    rw (← place, ← number) c.put_all.ensures
