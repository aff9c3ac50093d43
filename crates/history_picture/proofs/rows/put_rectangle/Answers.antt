use Rattle.history_picture.proofs.rows.put_rectangle.Goals as goal

pub returns : goal.returns
returns g c =
    rw (
      ← c.across-begin.ensures,
      ← c.across.ensures,
      ← c.saturating_sub-wide.ensures,
      ← c.down.ensures,
      ← c.filled.ensures,
      ← c.format.ensures.text,
      ← c.format-2.ensures.text,
      ← c.format-3.ensures.text,
      ← c.format-4.ensures.text,
      ← c.as_bytes-x.ensures.value,
      ← c.as_bytes-y.ensures.value,
      ← c.as_bytes-width.ensures.value,
      ← c.as_bytes-height.ensures.value,
    )
    c.put_all.ensures
