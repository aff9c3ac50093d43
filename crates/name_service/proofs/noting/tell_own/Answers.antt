use Rattle.std.proofs.Common.{ℕ, List, ◌++◌, ◌∙◌, ap}
use Rattle.lock_journal.proofs.Telling.{on_ok}
use Rattle.name_service.proofs.Said.{own_line}
use Rattle.name_service.proofs.noting.tell_own.Goals as goal

pub returns-in-Some : goal.returns-in-Some
returns-in-Some c = on_ok c.tell_reply.result _ _ c.tell_reply.ensures (λ e. e ∙ ap (λ (u : List ℕ). c.args.text.now.items ++ u) (own_line c.args.client c.args.name.now c.args.own c.in-Some.reply c.in-Some.is))
