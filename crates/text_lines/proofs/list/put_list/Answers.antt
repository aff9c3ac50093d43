use Rattle.std.proofs.Common.{rules}
use Rattle.text_lines.proofs.Writing.{writes_same}
use Rattle.text_lines.proofs.NumbersText.{list_is}
use Rattle.text_lines.proofs.list.put_list.Goals as goal

pub returns : goal.returns
returns g c = λ numbers are. writes_same _ _ c.put_numbers.result _ _ (list_is numbers) (c.put_numbers.ensures.text numbers (record { many = are.many; each = λ i answer lt said. are.each i answer lt (search rules) }))
