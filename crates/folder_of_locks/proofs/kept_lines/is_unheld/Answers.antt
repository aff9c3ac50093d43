use Rattle.std.proofs.Common.{◌∙◌, ◌<◌, length, sym, arith}
use Rattle.lock_names.proofs.Found.{there_is, none_some}
use Rattle.folder_of_locks.proofs.kept_lines.is_unheld.Goals as goal

pub returns-in-Some-clause-no : goal.returns-in-Some-clause-no
returns-in-Some-clause-no c = λ no unheld.
    let below : c.args.ring < length c.args.locks.now = let n = c.count.ensures in let t = c.if-ring-count.false in omega arith in
    let w = there_is c.args.locks.now c.args.ring below in
    none_some c.in-Some.field-0 (sym (unheld w.0 w.1) ∙ (sym (c.holder.ensures w.0 w.1) ∙ c.in-Some.is))
