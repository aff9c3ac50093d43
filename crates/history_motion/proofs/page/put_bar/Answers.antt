use Rattle.std.proofs.Common.{◌≡◌, ◌+◌, ◌∙◌, ap}
use Rattle.std.specs.Prelude.{decimal}
use Rattle.history_motion.specs.Motion.{duration}
use Rattle.history_motion.proofs.page.put_bar.Goals as goal

pub returns : goal.returns
returns g c =
    let time : c.as_bytes-time.result.now ≡ decimal (duration (c.args.count + 1)) = c.as_bytes-time.ensures.value ∙ c.format.ensures.text ∙ ap decimal c.duration.ensures in
    rw (
      ← time,
      ← c.format-2.ensures.text,
      ← c.format-3.ensures.text,
      ← c.as_bytes-first.ensures.value,
      ← c.as_bytes-last.ensures.value,
    )
    c.put_all.ensures
