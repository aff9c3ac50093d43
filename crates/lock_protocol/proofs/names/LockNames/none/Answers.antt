use Rattle.std.proofs.Common.{refl, arith}
use Rattle.lock_protocol.proofs.NameTables.{no_names}
use Rattle.lock_protocol.proofs.names.LockNames.none.Goals as goal

pub invariant_of-result : goal.invariant_of-result
invariant_of-result c = rw c.new.ensures.items (no_names, λ q. rw c.new-2.ensures.empty refl, omega arith)
