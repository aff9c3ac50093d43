use Rattle.std.proofs.Common.{◌≡◌, ◌∙◌, length, ap, arith}
use Rattle.std.specs.Prelude.{decimal}
use Rattle.history_motion.proofs.page.put_opening.Goals as goal

pub returns : goal.returns
returns g c =
    let many : c.len.result ≡ length c.args.ring.now.events.items = omega (arith, c.len.ensures) in
    let events : c.as_bytes-events.result.now ≡ decimal (length c.args.ring.now.events.items) = c.as_bytes-events.ensures.value ∙ c.format-6.ensures.text ∙ ap decimal many in
    rw (
      ← c.format.ensures.text,
      ← c.format-2.ensures.text,
      ← c.format-3.ensures.text,
      ← c.format-4.ensures.text,
      ← c.format-5.ensures.text,
      ← c.as_bytes-index.ensures.value,
      ← c.as_bytes-n.ensures.value,
      ← c.as_bytes-k.ensures.value,
      ← c.as_bytes-first.ensures.value,
      ← c.as_bytes-last.ensures.value,
      ← events,
    )
    c.put_all.ensures
