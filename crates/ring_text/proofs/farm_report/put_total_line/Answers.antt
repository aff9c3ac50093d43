use Rattle.ring_text.proofs.farm_report.put_total_line.Goals as goal

pub returns : goal.returns
returns g c =
    rw (
      c.as_bytes.ensures,
      c.put_word-4.ensures,
      c.number-4.ensures.is,
      c.put_word-3.ensures,
      c.number-3.ensures.is,
      c.put_word-2.ensures,
      c.number-2.ensures.is,
      c.put_word.ensures,
      c.number.ensures.is,
      c.byte.ensures,
      c.new-line.ensures,
    )
    at c.put.ensures
