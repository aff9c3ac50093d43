use Rattle.std.proofs.Common.{ℕ, List, ◌++◌, ◌∙◌, ap}
use Rattle.lock_journal.proofs.Telling.{on_ok}
use Rattle.name_service.proofs.Said.{grant_line}
use Rattle.name_service.proofs.noting.tell_grant.Goals as goal

pub returns-in-Some : goal.returns-in-Some
returns-in-Some c = on_ok c.put_answer.result _ _ c.put_answer.ensures.ok (λ e. e ∙ ap (λ (u : List ℕ). c.args.text.now.items ++ u) (grant_line c.args.name.now c.args.granted c.in-Some.holder c.in-Some.is))
