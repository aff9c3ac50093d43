use Rattle.std.proofs.Common.{ℕ, List, ◌++◌, sym, ap, ◌∙◌}
use Rattle.std.proofs.lemmas.Fmt.{decimal_digit}
use Rattle.lock_protocol.proofs.answers.put_decimal.Goals as goal

pub returns-then-number-lt10-clause-is : goal.returns-then-number-lt10-clause-is
returns-then-number-lt10-clause-is c =
    c.byte.ensures ∙ ap (λ (u : List ℕ). u ++ c.args.line.now) (sym (decimal_digit c.args.number c.if-number-lt10.true))
