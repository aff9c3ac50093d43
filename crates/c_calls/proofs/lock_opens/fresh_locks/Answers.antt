use Rattle.std.proofs.Common.{◌+◌, ℕ, ◌∙◌, ap}
use Rattle.c_calls.proofs.Fresh.{added_free, added_many}
use Rattle.c_calls.proofs.lock_opens.fresh_locks.Goals as goal

pub loop-number-preserved : goal.loop-number-preserved
loop-number-preserved c =
    let i = c.loop-number.invariant in record {
      many = added_many c.loop-number.locks c.add.new.self c.in-Ok.ring c.in-Ok-add.ensures.ok ∙ ap (λ (n : ℕ). n + 1) i.many;
      free = added_free c.args.machines c.loop-number.locks c.add.new.self c.in-Ok.ring c.in-Ok-add.ensures.ok c.in-Ok.ensures.1 i.free;
    }
