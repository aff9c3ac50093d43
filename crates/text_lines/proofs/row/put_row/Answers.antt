use Rattle.std.proofs.Common.{refl, rules}
use Rattle.text_lines.proofs.Writing.{writes_same}
use Rattle.text_lines.proofs.NumbersText.{row_is, small_where_asked}
use Rattle.text_lines.proofs.row.put_row.Goals as goal

pub returns-clause-text : goal.returns-clause-text
returns-clause-text g c = writes_same _ _ c.put_numbers.result _ _ (row_is c.args.values.now) (c.put_numbers.ensures.text c.args.values.now (record { many = refl; each = λ i answer lt said. search rules }))

pub returns-clause-small : goal.returns-clause-small
returns-clause-small g c = small_where_asked c.put_numbers.result c.args.values.now _ (λ i answer lt said. search rules) c.put_numbers.ensures.asked
