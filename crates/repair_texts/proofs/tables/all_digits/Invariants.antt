use Rattle.std.proofs.Common.{◌≡◌, map, take, decimal}
use Rattle.repair_texts.proofs.tables.all_digits.Given as goal

abbrev pub invariant-loop-number : goal.invariant-loop-number
invariant-loop-number l = map (λ text. text.items) l.texts.items ≡ map (λ n. decimal n.number) (take l.number-index l.numbers)
