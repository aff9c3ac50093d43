use Rattle.bad_lines.proofs.put.put_early.Goals as goal

pub returns : goal.returns
returns g c =
    rw (
      ← c.format.ensures.text,
      ← c.format-2.ensures.text,
      ← c.format-3.ensures.text,
      ← c.format-4.ensures.text,
      ← c.as_bytes-seat.ensures.value,
      ← c.as_bytes-position.ensures.value,
      ← c.as_bytes-last_seat.ensures.value,
      ← c.as_bytes-last.ensures.value,
    )
    c.put_all.ensures
