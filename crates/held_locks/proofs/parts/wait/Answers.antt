use Rattle.std.proofs.Common.{◌≡◌, ◌++◌, ◌∷◌, [], ◌∙◌, ap, inl, List, rules}
use Rattle.held_locks.specs.declared.answers.Waiter.{Waiter}
use Rattle.held_locks.specs.Parts.{view_of}
use Rattle.held_locks.proofs.Turned.{wait_turned}
use Rattle.held_locks.proofs.parts.wait.Goals as goal

pub returns : goal.returns
returns c =
    let queue : c.push_back_reserved.new.self.items ≡ c.args.lock.now.queue.items ++ c.args.waiter ∷ [] = c.push_back_reserved.ensures.items ∙ ap (λ (x : List Waiter). x ++ c.args.waiter ∷ []) c.in-Ok.ensures.items in
    inl (wait_turned c.args.number (view_of c.args.lock.now) c.reserve-2.new.ring c.push_back_reserved.new.self.items c.args.waiter c.len-before.result c.told.result c.args.waits.now c.begin.new.self c.in-Ok-reserve.ensures.kept (search rules) c.in-Ok-reserve.ensures.same c.requires.held queue (c.len-before.ensures ∙ c.args.lock.now.queue.ok.0) c.told.ensures c.in-Ok-begin.ensures.ok)
