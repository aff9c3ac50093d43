use Rattle.history_picture.proofs.frame.put_curves_opening.Goals as goal

pub returns : goal.returns
returns g c = rw (← c.up.ensures, ← c.format.ensures.text, ← c.format-2.ensures.text, ← c.as_bytes-far.ensures.value, ← c.as_bytes-line.ensures.value) c.put_all.ensures
