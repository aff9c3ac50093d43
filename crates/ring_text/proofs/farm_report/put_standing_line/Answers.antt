use Rattle.ring_text.proofs.farm_report.put_standing_line.Goals as goal

pub returns : goal.returns
returns g c =
    rw (
      ← c.format.ensures.text,
      ← c.format-2.ensures.text,
      ← c.format-3.ensures.text,
      ← c.format-4.ensures.text,
      ← c.format-5.ensures.text,
      ← c.as_bytes-privileged.ensures.value,
      ← c.as_bytes-first.ensures.value,
      ← c.as_bytes-calm.ensures.value,
      ← c.as_bytes-rest.ensures.value,
      ← c.as_bytes-limit.ensures.value,
    )
    c.put_all.ensures
