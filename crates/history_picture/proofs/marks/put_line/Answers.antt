use Rattle.std.proofs.lemmas.List.{append-nil}
use Rattle.history_picture.proofs.marks.put_line.Goals as goal

pub returns : goal.returns
returns g c =
    let last = rw (append-nil c.as_bytes-long.result.now) at c.put_all.ensures in
    rw (← c.format.ensures.text, ← c.format-2.ensures.text, ← c.format-3.ensures.text, ← c.as_bytes-x.ensures.value, ← c.as_bytes-y.ensures.value, ← c.as_bytes-long.ensures.value) last
