use Rattle.history_picture.proofs.frame.put_axes.Goals as goal

pub returns : goal.returns
returns g c =
    rw (
      ← c.format.ensures.text,
      ← c.format-2.ensures.text,
      ← c.format-3.ensures.text,
      ← c.format-4.ensures.text,
      ← c.as_bytes-last.ensures.value,
      ← c.as_bytes-first.ensures.value,
      ← c.as_bytes-end.ensures.value,
      ← c.as_bytes-high.ensures.value,
    )
    c.put_all.ensures
