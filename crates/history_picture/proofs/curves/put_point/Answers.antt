use Rattle.history_picture.proofs.curves.put_point.Goals as goal

pub returns : goal.returns
returns g c = rw (← c.middle.ensures, ← c.up.ensures, ← c.format.ensures.text, ← c.format-2.ensures.text, ← c.as_bytes-x.ensures.value, ← c.as_bytes-y.ensures.value) c.put_all.ensures
