use Rattle.std.proofs.Common.{rules, not, eqb}
use Rattle.std.proofs.lemmas.Fn.{filter_same}
use Rattle.held_locks.specs.declared.answers.Waiter.{Waiter}
use Rattle.held_locks.proofs.queue.leave.Goals as goal

pub returns : goal.returns
returns c = filter_same _ (λ (w : Waiter). not (eqb w.client c.args.client)) _ (λ x b f t. search rules) _ _ c.retain.ensures.filtered
