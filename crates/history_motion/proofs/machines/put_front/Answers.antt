use Rattle.std.proofs.Common.{◌≡◌, ◌∙◌, false, length, get_or, ap}
use Rattle.std.specs.Prelude.{decimal}
use Rattle.ring_model.specs.Numbers.{bit}
use Rattle.history_motion.specs.Motion.{duration}
use Rattle.history_motion.proofs.machines.put_front.Goals as goal

pub returns : goal.returns
returns g c =
    let first : c.as_bytes-first.result.now ≡ decimal (bit (get_or c.args.flags.now 0 false)) = c.as_bytes-first.ensures.value ∙ c.format.ensures.text in
    let time : c.as_bytes-time.result.now ≡ decimal (duration (length c.args.flags.now)) = c.as_bytes-time.ensures.value ∙ c.format-2.ensures.text ∙ ap decimal c.duration.ensures in
    rw (← first, ← time) c.put_all.ensures
